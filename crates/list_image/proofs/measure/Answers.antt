-- `list_image::measure` meets its contract.
-- Assumes nothing.
use Rattle.std.proofs.lemmas.Result.{err_from_is_err_and}
use Rattle.base_refusals.proofs.Tight.{inner}
use Rattle.image_readers.proofs.Steps.{found_runs, found_within, found_nearer}
use Rattle.list_image.proofs.Whole.{found_short, counted_start, counted_turn, counted_fits, counted_end, counted_refused}
use Rattle.list_image.proofs.measure.Goals as goal

pub loop-line-init : goal.loop-line-init
loop-line-init c = search counted_start

pub returns-in_err-line : goal.returns-in_err-line
returns-in_err-line c = let p = err_from_is_err_and c.from_residual.result c.from_residual.ensures.1 in rw (p.1, p.2) (search (counted_refused, c.in_err-line.was))

pub slice_bounds-measure_line-count : goal.slice_bounds-measure_line-count
slice_bounds-measure_line-count c = search (found_runs, inner, c.in_ok-line.was)

pub slice_bounds-measure_line-start : goal.slice_bounds-measure_line-start
slice_bounds-measure_line-start c = search (found_runs, inner, c.in_ok-line.was)

pub slice_bounds-measure_line-end : goal.slice_bounds-measure_line-end
slice_bounds-measure_line-end c = search (found_within, inner, c.in_ok-line.was)

pub measure_line-n-requires : goal.measure_line-n-requires
measure_line-n-requires c = search (found_short, inner, c.in_ok-line.was)

pub overflow_add-n : goal.overflow_add-n
overflow_add-n c = search (counted_fits, inner, c.in_ok-line.was)

pub loop-line-smaller : goal.loop-line-smaller
loop-line-smaller c = search (found_nearer, inner, c.in_ok-line.was)

pub loop-line-preserved : goal.loop-line-preserved
loop-line-preserved c = search (counted_turn, inner, c.in_ok-line.was)

pub returns : goal.returns
returns c = search (counted_end, inner, c.in_ok-line.was)
