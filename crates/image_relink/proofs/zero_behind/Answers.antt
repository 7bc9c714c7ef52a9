-- `image_relink::zero_behind` meets its contract.
-- Assumes nothing.
use Rattle.image_relink.proofs.Following.{known_within, ahead_start, ahead_outside, ahead_found, ahead_turn, ahead_end}
use Rattle.image_relink.proofs.zero_behind.Goals as goal

pub loop-i-init : goal.loop-i-init
loop-i-init c = search ahead_start

pub returns-then-not-is_in_memory : goal.returns-then-not-is_in_memory
returns-then-not-is_in_memory c = search ahead_outside

pub bounds-image-at : goal.bounds-image-at
bounds-image-at c = search known_within

pub returns-then-image-at-eq0 : goal.returns-then-image-at-eq0
returns-then-image-at-eq0 c = search ahead_found

pub loop-i-preserved : goal.loop-i-preserved
loop-i-preserved c = search (ahead_turn, c.loop-i.invariant, c.if-image-at-eq0.false)

pub returns : goal.returns
returns c = search ahead_end
