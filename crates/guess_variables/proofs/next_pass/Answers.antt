-- `guess_variables::next_pass` meets its contract.
-- Assumes nothing.
use Rattle.guess_variables.proofs.Passes.{pass_plain, pass_aside}
use Rattle.guess_variables.proofs.next_pass.Goals as goal

pub returns-then-is_plain : goal.returns-then-is_plain
returns-then-is_plain c = search pass_plain

pub returns-else-is_plain : goal.returns-else-is_plain
returns-else-is_plain c = search pass_aside
