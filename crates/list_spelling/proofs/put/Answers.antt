-- `list_spelling::put` meets its contract: one byte, the two ends of a text, or all of it.
-- Assumes nothing.
use Rattle.list_spelling.proofs.Copying.{one_put, all_stored}
use Rattle.list_spelling.proofs.put.Goals as goal

pub returns-in-1 : goal.returns-in-1
returns-in-1 c = search one_put

pub returns-in_default : goal.returns-in_default
returns-in_default c = search all_stored
