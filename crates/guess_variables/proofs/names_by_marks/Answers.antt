-- `guess_variables::names_by_marks` meets its contract.
-- Assumes nothing.
use native.Mathlib.Omega.{arith}
use Rattle.guess_variables.proofs.names_by_marks.Goals as goal

pub mark-requires : goal.mark-requires
mark-requires g c = (omega (arith, c.requires.1), c.requires.0)

pub shared_whole_as_slice-marked_names : goal.shared_whole_as_slice-marked_names
shared_whole_as_slice-marked_names g c = omega (arith, c.requires.1)
