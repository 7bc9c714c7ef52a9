-- `image_readers::check_by` meets its contract.
-- Assumes nothing.
use Prim.Native.Nat.{◌-◌}
use lib.ListN.{length}
use Rattle.image_readers.proofs.Counting.{LinesPassed}
use Rattle.image_readers.proofs.check_by.Given as goal

abbrev pub invariant-loop-line : goal.invariant-loop-line
invariant-loop-line l = LinesPassed l.by l.image l.offset l.lines

abbrev pub decreases-loop-line : goal.decreases-loop-line
decreases-loop-line l = length l.image - l.offset
