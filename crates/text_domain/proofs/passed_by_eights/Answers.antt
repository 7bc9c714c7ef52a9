-- `text_domain::passed_by_eights` meets its contract.
-- Assumes nothing.
use native.Mathlib.Omega.{arith}
use Rattle.text_domain.proofs.Limits.{low_sixteen, low_within}
use Rattle.text_domain.proofs.passed_by_eights.Goals as goal

pub loop-i-init : goal.loop-i-init
loop-i-init c = omega arith

pub overflow_sub-text : goal.overflow_sub-text
overflow_sub-text c = search low_within

pub loop-i-preserved : goal.loop-i-preserved
loop-i-preserved c = low_sixteen c.if-max-ge128.false c.max.ensures c.top_of_eight.ensures c.top_of_eight-in-loop-i.ensures c.loop-i-test.true c.loop-i.invariant
