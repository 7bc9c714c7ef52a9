-- `moldthatch::disks::moldthatch_disk_format` meets its contract.
-- Assumes nothing.
use Rattle.moldthatch.proofs.Telling.{tells_disk}
use Rattle.moldthatch.proofs.disks.moldthatch_disk_format.Goals as goal

pub returns : goal.returns
returns c = search tells_disk
