-- `moldthatch::dialects::named_code` meets its contract.
-- Assumes nothing.
use Rattle.moldthatch.proofs.TellingDialects.{tells_named}
use Rattle.moldthatch.proofs.dialects.named_code.Goals as goal

pub returns-in-Ok : goal.returns-in-Ok
returns-in-Ok c = search tells_named

pub returns-in-Err : goal.returns-in-Err
returns-in-Err c = search tells_named
