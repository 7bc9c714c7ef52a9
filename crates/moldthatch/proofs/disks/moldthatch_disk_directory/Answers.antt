-- `moldthatch::disks::moldthatch_disk_directory` meets its contract.
-- Assumes nothing.
use Rattle.moldthatch.proofs.Telling.{tells_directory}
use Rattle.moldthatch.proofs.disks.moldthatch_disk_directory.Goals as goal

pub returns : goal.returns
returns c = search tells_directory
