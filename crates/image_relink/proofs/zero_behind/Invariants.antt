-- `image_relink::zero_behind` meets its contract.
-- Assumes nothing.
use Rattle.image_relink.proofs.Following.{ZeroAhead}
use Rattle.image_relink.proofs.zero_behind.Given as goal

abbrev pub invariant-loop-i : goal.invariant-loop-i
invariant-loop-i l = ZeroAhead l.image l.offset l.i
