-- `image_rows::places::add_places` meets its contract.
-- Assumes nothing.
use Prim.Native.Nat.{◌-◌}
use lib.ListN.{length}
use Rattle.image_rows.proofs.Placing.{Placing}
use Rattle.image_rows.proofs.places.add_places.Given as goal

abbrev pub invariant-loop-line : goal.invariant-loop-line
invariant-loop-line l = Placing l.by l.image l.origins l.initial.out l.out l.offset l.before l.to

abbrev pub decreases-loop-line : goal.decreases-loop-line
decreases-loop-line l = length l.image - l.offset
