-- `moldthatch::disks::changed_code` meets its contract.
-- Assumes nothing.
use Rattle.moldthatch.proofs.Telling.{tells_changed}
use Rattle.moldthatch.proofs.disks.changed_code.Goals as goal

pub returns-in-Ok : goal.returns-in-Ok
returns-in-Ok c = search tells_changed

pub returns-in-Err : goal.returns-in-Err
returns-in-Err c = search tells_changed
