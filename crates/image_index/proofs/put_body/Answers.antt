-- `image_index::put_body` meets its contract.
-- Assumes nothing.
use Rattle.base_bits.proofs.Pens.{drawn_same}
use Rattle.image_index.proofs.Putting.{body_start, body_ready, body_turn, body_less, body_end_lem}
use Rattle.image_index.proofs.put_body.Goals as goal

pub loop-jump-init : goal.loop-jump-init
loop-jump-init c = search body_start

pub put_jump-pen-requires : goal.put_jump-pen-requires
put_jump-pen-requires c = search body_ready

pub loop-jump-smaller : goal.loop-jump-smaller
loop-jump-smaller c = search body_less

pub loop-jump-preserved : goal.loop-jump-preserved
loop-jump-preserved c = search body_turn

pub returns : goal.returns
returns c = search body_end_lem

pub shape_of-out : goal.shape_of-out
shape_of-out c = drawn_same _ _ _ (returns c)
