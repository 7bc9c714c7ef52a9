-- `crunch_origins::origins` meets its contract.
-- Assumes nothing.
use Rattle.guess.proofs.Texts.{line_high, line_less, line_up}
use Rattle.say_put.proofs.Clipping.{clip_long}
use Rattle.crunch_origins.proofs.Pairing.{pairing_start, pairing_turn, pairing_end}
use Rattle.crunch_origins.proofs.origins.Goals as goal

pub loop-at-init : goal.loop-at-init
loop-at-init c = search pairing_start

pub slice_bounds-put_origin-count : goal.slice_bounds-put_origin-count
slice_bounds-put_origin-count c = search line_up

pub slice_bounds-put_origin-start : goal.slice_bounds-put_origin-start
slice_bounds-put_origin-start c = search line_up

pub slice_bounds-put_origin-end : goal.slice_bounds-put_origin-end
slice_bounds-put_origin-end c = search line_high

pub loop-at-smaller : goal.loop-at-smaller
loop-at-smaller c = search line_less

pub loop-at-preserved : goal.loop-at-preserved
loop-at-preserved c = search pairing_turn

pub returns : goal.returns
returns c = search pairing_end

pub shape_of-out : goal.shape_of-out
shape_of-out c = clip_long (returns c)
