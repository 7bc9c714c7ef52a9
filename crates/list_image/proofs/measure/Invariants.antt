-- `list_image::measure` meets its contract.
-- Assumes nothing.
use Prim.Native.Nat.{◌-◌}
use lib.ListN.{length}
use Rattle.list_image.proofs.Whole.{LinesCounted}
use Rattle.list_image.proofs.measure.Given as goal

abbrev pub invariant-loop-line : goal.invariant-loop-line
invariant-loop-line l = LinesCounted l.by l.rules l.image l.offset l.n

abbrev pub decreases-loop-line : goal.decreases-loop-line
decreases-loop-line l = length l.image - l.offset
