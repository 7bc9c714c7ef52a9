-- `count_images::tallies::count_image` meets its contract.
-- Assumes nothing.
use Rattle.base_refusals.proofs.Tight.{inner}
use Rattle.image_readers.proofs.Steps.{found_runs, found_within, found_nearer}
use Rattle.count_images.proofs.Bodies.{image_start, line_room, image_turn, image_end, image_refused}
use Rattle.count_images.proofs.tallies.count_image.Goals as goal

pub loop-line-init : goal.loop-line-init
loop-line-init c = search image_start

pub slice_bounds-count_body-count : goal.slice_bounds-count_body-count
slice_bounds-count_body-count c = search (found_runs, inner)

pub slice_bounds-count_body-start : goal.slice_bounds-count_body-start
slice_bounds-count_body-start c = search (found_runs, inner)

pub slice_bounds-count_body-end : goal.slice_bounds-count_body-end
slice_bounds-count_body-end c = search (found_within, inner)

pub count_body-requires : goal.count_body-requires
count_body-requires c = search (line_room, inner)

pub loop-line-smaller : goal.loop-line-smaller
loop-line-smaller c = search (found_nearer, inner)

pub loop-line-preserved : goal.loop-line-preserved
loop-line-preserved c = search (image_turn, inner)

pub returns-in_default : goal.returns-in_default
returns-in_default c = search (image_end, inner)

pub returns-in_default-2 : goal.returns-in_default-2
returns-in_default-2 c = search image_refused
