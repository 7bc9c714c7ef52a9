-- `image_index::count_jumps` meets its contract.
-- Assumes nothing.
use Rattle.base_refusals.proofs.Tight.{inner}
use Rattle.std.proofs.lemmas.Result.{err_from_is_err_and}
use Rattle.image_index.proofs.Counting.{lines_start, body_runs, body_within, body_low, count_low, lines_high, lines_turn, lines_less, lines_end, lines_fault}
use Rattle.image_index.proofs.count_jumps.Goals as goal

pub loop-line-init : goal.loop-line-init
loop-line-init c = search lines_start

pub slice_bounds-count_body-count : goal.slice_bounds-count_body-count
slice_bounds-count_body-count c = search (body_runs, inner)

pub slice_bounds-count_body-start : goal.slice_bounds-count_body-start
slice_bounds-count_body-start c = search (body_runs, inner)

pub slice_bounds-count_body-end : goal.slice_bounds-count_body-end
slice_bounds-count_body-end c = search (body_within, inner)

pub count_body-requires : goal.count_body-requires
count_body-requires c = (search count_low, search (body_low, inner))

pub returns-in_err-n : goal.returns-in_err-n
returns-in_err-n c = let p = err_from_is_err_and c.from_residual.result c.from_residual.ensures.1 in rw (p.1, p.2) (search (lines_high, inner, c.in_err-n.was))

pub loop-line-smaller : goal.loop-line-smaller
loop-line-smaller c = search (lines_less, inner)

pub loop-line-preserved : goal.loop-line-preserved
loop-line-preserved c = search (lines_turn, inner, c.in_ok-n.was)

pub returns-in_default : goal.returns-in_default
returns-in_default c = search (lines_end, inner)

pub returns-in_default-2 : goal.returns-in_default-2
returns-in_default-2 c = search lines_fault
