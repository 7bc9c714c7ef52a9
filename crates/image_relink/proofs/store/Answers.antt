-- `image_relink::store` meets its contract.
-- Assumes nothing.
use Rattle.image_relink.proofs.Following.{known_within, store_outside, store_changed, store_round, store_kept}
use Rattle.image_relink.proofs.store.Goals as goal

pub returns-then-not-is_in_memory : goal.returns-then-not-is_in_memory
returns-then-not-is_in_memory c = search store_outside

pub bounds-image-low : goal.bounds-image-low
bounds-image-low c = search known_within

pub returns-then-link-low_first : goal.returns-then-link-low_first
returns-then-link-low_first c = search (store_changed, c.if-link-low_first.true)

pub returns-then-count-eq0 : goal.returns-then-count-eq0
returns-then-count-eq0 c = search store_round

pub returns : goal.returns
returns c = search (store_kept, c.if-count-eq0.false)
