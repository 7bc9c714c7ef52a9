-- `crunch_measure::measure` meets its contract.
-- Assumes nothing.
use Rattle.std.proofs.lemmas.Result.{err_from_is_err_and}
use native.Mathlib.Omega.{arith}
use Rattle.base_refusals.proofs.Tight.{inner}
use Rattle.crunch_measure.proofs.Measuring.{measured_low, measured_end, measured_start, measured_blank, measured_refused, measured_span, measured_here, measured_past}
use Rattle.guess.proofs.Texts.{line_high, line_less, line_up}
use Rattle.crunch_measure.proofs.measure.Goals as goal

pub loop-at-init : goal.loop-at-init
loop-at-init c = search measured_start

pub slice_bounds-line-count : goal.slice_bounds-line-count
slice_bounds-line-count c = search line_up

pub slice_bounds-line-start : goal.slice_bounds-line-start
slice_bounds-line-start c = search line_up

pub slice_bounds-line-end : goal.slice_bounds-line-end
slice_bounds-line-end c = search line_high

pub returns-in_err-sized : goal.returns-in_err-sized
returns-in_err-sized c =
    let p = err_from_is_err_and c.from_residual.result c.from_residual.ensures.1 in
    rw (p.1, p.2) (measured_refused c.loop-at.invariant c.next_line-next.ensures c.loop-at-test.true c.measure_line.ensures c.in_err-sized.was)

pub line_between-line-requires : goal.line_between-line-requires
line_between-line-requires c =
    measured_span c.loop-at.invariant c.next_line-next.ensures c.loop-at-test.true c.measure_line.ensures (inner c.in_ok-sized.was c.in-Some.is)

pub loop-at-smaller-then-count-place : goal.loop-at-smaller-then-count-place
loop-at-smaller-then-count-place c = search line_less

pub loop-at-preserved-then-count-place : goal.loop-at-preserved-then-count-place
loop-at-preserved-then-count-place c =
    measured_here c.loop-at.invariant c.next_line-next.ensures c.loop-at-test.true c.measure_line.ensures (inner c.in_ok-sized.was c.in-Some.is)
    c.if-count-place.true c.line_between-line.ensures

pub loop-at-smaller-else-count-place : goal.loop-at-smaller-else-count-place
loop-at-smaller-else-count-place c = search line_less

pub loop-at-preserved-else-count-place : goal.loop-at-preserved-else-count-place
loop-at-preserved-else-count-place c =
    measured_past c.loop-at.invariant c.next_line-next.ensures c.loop-at-test.true c.measure_line.ensures (inner c.in_ok-sized.was c.in-Some.is)
    c.if-count-place.false

pub loop-at-smaller : goal.loop-at-smaller
loop-at-smaller c = search line_less

pub loop-at-preserved : goal.loop-at-preserved
loop-at-preserved c =
    measured_blank c.loop-at.invariant c.next_line-next.ensures c.loop-at-test.true c.measure_line.ensures (inner c.in_ok-sized.was c.in_default.is)

pub overflow_sub-result : goal.overflow_sub-result
overflow_sub-result c = search measured_low

pub overflow_add-result : goal.overflow_add-result
overflow_add-result c = omega (arith, measured_low)

pub returns : goal.returns
returns c = search measured_end
