-- `image_readers::check_by` meets its contract.
-- Assumes nothing.
use Rattle.std.proofs.lemmas.Result.{err_from_is_err_and}
use Rattle.base_refusals.proofs.Tight.{inner}
use Rattle.image_readers.proofs.Counting.{passed_start, passed_turn, passed_fits, passed_end, passed_refused}
use Rattle.image_readers.proofs.Steps.{found_nearer, end_long}
use Rattle.image_readers.proofs.check_by.Goals as goal

pub loop-line-init : goal.loop-line-init
loop-line-init c = search passed_start

pub overflow_add-lines : goal.overflow_add-lines
overflow_add-lines c = passed_fits (inner c.in_ok-line.was c.in-Some.is) c.step_by.ensures c.loop-line.invariant

pub loop-line-smaller : goal.loop-line-smaller
loop-line-smaller c = found_nearer _ _ _ (inner c.in_ok-line.was c.in-Some.is) c.step_by.ensures

pub loop-line-preserved : goal.loop-line-preserved
loop-line-preserved c = passed_turn (inner c.in_ok-line.was c.in-Some.is) c.step_by.ensures c.loop-line.invariant

pub low_first_at-load-requires : goal.low_first_at-load-requires
low_first_at-load-requires c = end_long _ _ _ (inner c.in_ok-line.was c.in_default.is) c.step_by.ensures

pub returns-in_err-line : goal.returns-in_err-line
returns-in_err-line c =
    let p = err_from_is_err_and c.from_residual.result c.from_residual.ensures.1 in
    rw (p.1, p.2) (passed_refused c.in_err-line.was c.step_by.ensures c.loop-line.invariant)

pub returns : goal.returns
returns c = passed_end (inner c.in_ok-line.was c.in_default.is) c.step_by.ensures c.loop-line.invariant c.low_first_at-load.ensures
