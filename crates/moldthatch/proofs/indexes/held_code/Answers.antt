-- `moldthatch::indexes::held_code` meets its contract.
-- Assumes nothing.
use Rattle.moldthatch.proofs.Telling.{tells_held}
use Rattle.moldthatch.proofs.indexes.held_code.Goals as goal

pub returns-in-None : goal.returns-in-None
returns-in-None c = search tells_held

pub returns-in-Some : goal.returns-in-Some
returns-in-Some c = search tells_held
