-- `moldthatch::dialects::load_code` meets its contract.
-- Assumes nothing.
use Rattle.moldthatch.proofs.TellingDialects.{tells_load, tells_no_load}
use Rattle.moldthatch.proofs.dialects.load_code.Goals as goal

pub returns-in-Ok : goal.returns-in-Ok
returns-in-Ok c = search tells_load

pub returns-in-Err : goal.returns-in-Err
returns-in-Err c = search tells_no_load
