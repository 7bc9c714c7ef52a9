-- `image_readers::body_by` meets its contract.
-- Assumes nothing.
use Rattle.base_refusals.proofs.Tight.{inner}
use Rattle.image_readers.proofs.Steps.{found_runs, found_within}
use Rattle.image_readers.proofs.body_by.Goals as goal

pub slice_bounds-result-count : goal.slice_bounds-result-count
slice_bounds-result-count c = search (found_runs, inner)

pub slice_bounds-result-start : goal.slice_bounds-result-start
slice_bounds-result-start c = search (found_runs, inner)

pub slice_bounds-result-end : goal.slice_bounds-result-end
slice_bounds-result-end c = search (found_within, inner)
