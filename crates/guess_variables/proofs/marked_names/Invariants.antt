-- `guess_variables::marked_names` meets its contract.
-- Assumes nothing.
use Prim.Native.Nat.{◌-◌}
use lib.ListN.{length}
use Rattle.guess_variables.specs.Variables.{line_names}
use Rattle.guess_variables.proofs.Passes.{Passing}
use Rattle.guess_variables.proofs.marked_names.Given as goal

abbrev pub invariant-loop-i : goal.invariant-loop-i
invariant-loop-i l = Passing l.line (line_names l.line l.initial.found) (length l.initial.found) l.found l.place l.i

abbrev pub decreases-loop-i : goal.decreases-loop-i
decreases-loop-i l = length l.line - l.i
