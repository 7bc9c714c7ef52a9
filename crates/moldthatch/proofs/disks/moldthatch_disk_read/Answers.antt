-- `moldthatch::disks::moldthatch_disk_read` meets its contract.
-- Assumes nothing.
use Rattle.moldthatch.proofs.Telling.{tells}
use Rattle.moldthatch.proofs.disks.moldthatch_disk_read.Goals as goal

pub returns : goal.returns
returns c = search tells
