-- `escape_numbers::without_plus` meets its contract.
-- Assumes nothing.
use Rattle.escape_numbers.proofs.Numbering.{plus_empty, plus_other, plus_left_out}
use Rattle.escape_numbers.proofs.without_plus.Goals as goal

pub returns-in-43 : goal.returns-in-43
returns-in-43 c = search plus_left_out

pub returns-in_default : goal.returns-in_default
returns-in_default c = search plus_empty

pub returns-in_default-2 : goal.returns-in_default-2
returns-in_default-2 c = search plus_other
