-- `image_index::count_jumps` meets its contract.
-- Assumes nothing.
use Prim.Native.Nat.{◌-◌}
use lib.ListN.{length}
use Rattle.image_index.proofs.Counting.{CountingLines}
use Rattle.image_index.proofs.count_jumps.Given as goal

abbrev pub invariant-loop-line : goal.invariant-loop-line
invariant-loop-line l = CountingLines l.marked l.image l.offset l.n

abbrev pub decreases-loop-line : goal.decreases-loop-line
decreases-loop-line l = length l.image - l.offset
