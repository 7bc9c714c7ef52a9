-- `image_index::put_jumps` meets its contract.
-- Assumes nothing.
use Prim.Native.Nat.{◌-◌}
use lib.ListN.{length}
use Rattle.image_index.proofs.Putting.{PuttingJumps}
use Rattle.image_index.proofs.put_jumps.Given as goal

abbrev pub invariant-loop-line : goal.invariant-loop-line
invariant-loop-line l = PuttingJumps l.marked l.image l.initial.out l.initial.pen l.out l.pen l.offset l.place

abbrev pub decreases-loop-line : goal.decreases-loop-line
decreases-loop-line l = length l.image - l.offset
