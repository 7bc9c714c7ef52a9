-- `guess_variables::is_name` meets its contract.
-- Assumes nothing.
use Rattle.guess_variables.proofs.Passes.{name_assigned, name_dim}
use Rattle.guess_uses.proofs.Marks.{marks_rest}
use Rattle.guess_variables.proofs.is_name.Goals as goal

pub assigns-requires : goal.assigns-requires
assigns-requires c = search marks_rest

pub returns-then-assigns : goal.returns-then-assigns
returns-then-assigns c = search name_assigned

pub returns-else-assigns : goal.returns-else-assigns
returns-else-assigns c = search name_dim
