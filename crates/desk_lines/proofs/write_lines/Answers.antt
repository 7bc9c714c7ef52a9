-- `desk_lines::write_lines` is safe and ends: each line lies within the image, and the next one nearer to its end.
-- Assumes nothing.
use Rattle.base_refusals.proofs.Tight.{inner}
use Rattle.image_readers.proofs.Steps.{found_runs, found_within, found_nearer}
use Rattle.desk_lines.proofs.write_lines.Goals as goal

pub slice_bounds-body-count : goal.slice_bounds-body-count
slice_bounds-body-count c = search (found_runs, inner)

pub slice_bounds-body-start : goal.slice_bounds-body-start
slice_bounds-body-start c = search (found_runs, inner)

pub slice_bounds-body-end : goal.slice_bounds-body-end
slice_bounds-body-end c = search (found_within, inner)

pub loop-step-smaller : goal.loop-step-smaller
loop-step-smaller c = search (found_nearer, inner)
