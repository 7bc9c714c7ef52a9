-- `body_steps::string::brace_step` meets its contract.
-- Assumes nothing.
use Rattle.body_steps.proofs.Braces.{span_begun, span_from, brace_open, brace_known, brace_unknown}
use Rattle.body_steps.proofs.string.brace_step.Goals as goal

pub returns-then-text-close : goal.returns-then-text-close
returns-then-text-close c = search brace_open

pub slice_bounds-escape_from-count : goal.slice_bounds-escape_from-count
slice_bounds-escape_from-count c = search span_begun

pub slice_bounds-escape_from-start : goal.slice_bounds-escape_from-start
slice_bounds-escape_from-start c = search span_begun

pub overflow_sub-at : goal.overflow_sub-at
overflow_sub-at c = search span_from

pub returns-in-Some : goal.returns-in-Some
returns-in-Some c = search brace_known

pub returns-in-None : goal.returns-in-None
returns-in-None c = search brace_unknown
