-- `list_image::write` meets its contract.
-- Assumes nothing.
use Rattle.base_refusals.proofs.Tight.{inner}
use Rattle.image_readers.proofs.Steps.{found_runs, found_within, found_nearer}
use Rattle.list_image.proofs.Whole.{found_short, written_start, written_head, written_rest, written_turn, written_end, written_refused, written_long}
use Rattle.list_image.proofs.write.Goals as goal

pub loop-line-init : goal.loop-line-init
loop-line-init c = search written_start

pub put_head-behind-requires : goal.put_head-behind-requires
put_head-behind-requires c = search (written_head, inner)

pub slice_bounds-put_rest-count : goal.slice_bounds-put_rest-count
slice_bounds-put_rest-count c = search (found_runs, inner)

pub slice_bounds-put_rest-start : goal.slice_bounds-put_rest-start
slice_bounds-put_rest-start c = search (found_runs, inner)

pub slice_bounds-put_rest-end : goal.slice_bounds-put_rest-end
slice_bounds-put_rest-end c = search (found_within, inner)

pub put_rest-at-requires : goal.put_rest-at-requires
put_rest-at-requires c = search (written_rest, found_short, inner)

pub loop-line-smaller : goal.loop-line-smaller
loop-line-smaller c = search (found_nearer, inner)

pub loop-line-preserved : goal.loop-line-preserved
loop-line-preserved c = search (written_turn, inner)

pub shape_of-out-in_default : goal.shape_of-out-in_default
shape_of-out-in_default c = search written_long

pub returns-in_default : goal.returns-in_default
returns-in_default c = search (written_end, inner)

pub shape_of-out-in_default-2 : goal.shape_of-out-in_default-2
shape_of-out-in_default-2 c = search written_long

pub returns-in_default-2 : goal.returns-in_default-2
returns-in_default-2 c = search written_refused
