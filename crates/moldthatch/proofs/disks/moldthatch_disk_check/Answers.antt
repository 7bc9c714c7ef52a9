-- `moldthatch::disks::moldthatch_disk_check` meets its contract.
-- Assumes nothing.
use Rattle.moldthatch.proofs.Telling.{tells_holding}
use Rattle.moldthatch.proofs.disks.moldthatch_disk_check.Goals as goal

pub returns-in-Ok : goal.returns-in-Ok
returns-in-Ok c = search tells_holding

pub returns-in-Err : goal.returns-in-Err
returns-in-Err c = search tells_holding
