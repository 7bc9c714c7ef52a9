-- `image_marks::mark_numbers` meets its contract.
-- Assumes nothing.
use Prim.Native.Nat.{◌-◌}
use mathlib.Core.Path.{◌≡◌}
use lib.ListN.{length}
use Rattle.image_marks.proofs.Marking.{MarksAhead}
use Rattle.image_marks.proofs.mark_numbers.Given as goal

abbrev pub invariant-loop-line : goal.invariant-loop-line
invariant-loop-line l = MarksAhead l.image l.initial.marked l.marked l.offset × (length l.marked ≡ length l.initial.marked)

abbrev pub decreases-loop-line : goal.decreases-loop-line
decreases-loop-line l = length l.image - l.offset
