-- `image_relink::relink` meets its contract.
-- Assumes nothing.
use Rattle.image_relink.proofs.Following.{from_top, Followed}
use Rattle.image_relink.proofs.relink.Given as goal

abbrev pub invariant-loop-next : goal.invariant-loop-next
invariant-loop-next l = Followed l.image l.offset

abbrev pub decreases-loop-next : goal.decreases-loop-next
decreases-loop-next l = from_top l.image l.offset
