-- `count_images::tallies::count_image` meets its contract.
-- Assumes nothing.
use Prim.Native.Nat.{◌-◌}
use lib.ListN.{length}
use Rattle.count_images.proofs.Bodies.{ImageTallied}
use Rattle.count_images.proofs.tallies.count_image.Given as goal

abbrev pub invariant-loop-line : goal.invariant-loop-line
invariant-loop-line l = ImageTallied l.image l.initial.totals l.totals l.offset

abbrev pub decreases-loop-line : goal.decreases-loop-line
decreases-loop-line l = length l.image - l.offset
