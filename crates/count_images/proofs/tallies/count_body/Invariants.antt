-- `count_images::tallies::count_body` meets its contract.
-- Assumes nothing.
use Prim.Native.Nat.{◌-◌}
use lib.ListN.{length}
use Rattle.count_images.proofs.Bodies.{BodyTallied}
use Rattle.count_images.proofs.tallies.count_body.Given as goal

abbrev pub invariant-loop-i : goal.invariant-loop-i
invariant-loop-i l = BodyTallied l.rules l.initial.totals l.body l.totals l.i l.mode

abbrev pub decreases-loop-i : goal.decreases-loop-i
decreases-loop-i l = length l.body - l.i
