-- `text_numbers::number_filled` meets its contract: a law for each answer.
-- Assumes nothing.
use mathlib.Core.Path.{sym, ◌∙◌}
use borrow.Author.Tests.{eqb-true, eqb-false}
use Rattle.text_numbers.proofs.Numbers.{line_blank, line_missing, line_range, count_within_lem, count_fits, body_fits, end_fits, line_numbered}
use Rattle.text_numbers.proofs.number_filled.Goals as goal

pub returns-then-is_empty : goal.returns-then-is_empty
returns-then-is_empty c = line_blank _ _ (eqb-true _ _ (sym c.is_empty.ensures ∙ c.if-is_empty.true)) c.trim-text.ensures

pub returns-then-count-eq0 : goal.returns-then-count-eq0
returns-then-count-eq0 c = search (line_missing, eqb-false _ _ (sym c.is_empty.ensures ∙ c.if-is_empty.false))

pub returns-in_default : goal.returns-in_default
returns-in_default c = line_range _ _ c.in_default.ensures c.digits_in-count.ensures c.trim-text.ensures c.if-count-eq0.false

pub slice_bounds-front-count : goal.slice_bounds-front-count
slice_bounds-front-count c = search count_within_lem

pub slice_bounds-front-start : goal.slice_bounds-front-start
slice_bounds-front-start c = search count_within_lem

pub overflow_add-result : goal.overflow_add-result
overflow_add-result c = search count_fits

pub overflow_add-result-2 : goal.overflow_add-result-2
overflow_add-result-2 c = search body_fits

pub overflow_add-result-3 : goal.overflow_add-result-3
overflow_add-result-3 c = search end_fits

pub returns : goal.returns
returns c = line_numbered _ _ c.leading_space-from.ensures c.front-spaces.ensures c.digits_in-count.ensures c.trim-text.ensures c.in-Ok.ensures c.if-count-eq0.false
