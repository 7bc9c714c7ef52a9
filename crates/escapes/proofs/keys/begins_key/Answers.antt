-- `escapes::keys::begins_key` meets its contract.
-- Assumes nothing.
use Rattle.escapes.proofs.Marks.{begins_empty, begins_one, begins_other}
use Rattle.escapes.proofs.keys.begins_key.Goals as goal

pub returns-in-empty : goal.returns-in-empty
returns-in-empty c = search begins_empty

pub returns-in-67 : goal.returns-in-67
returns-in-67 c = search begins_one

pub returns-in_default : goal.returns-in_default
returns-in_default c = search begins_other
