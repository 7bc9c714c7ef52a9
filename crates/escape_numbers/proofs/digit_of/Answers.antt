-- `escape_numbers::digit_of` meets its contract.
-- Assumes nothing.
use mathlib.Core.Path.{◌∙◌}
use Rattle.escape_numbers.proofs.Codes.{digit_low, letter_digit}
use Rattle.escape_numbers.proofs.Numbering.{digit_decimal, digit_letter, digit_none}
use Rattle.escape_numbers.proofs.digit_of.Goals as goal

pub overflow_sub-b : goal.overflow_sub-b
overflow_sub-b c = search digit_low

pub returns-then-is_digit : goal.returns-then-is_digit
returns-then-is_digit c = c.from.ensures ∙ digit_decimal _ c.if-is_digit.true c.is_digit.ensures

pub overflow_sub-upper : goal.overflow_sub-upper
overflow_sub-upper c = search letter_digit

pub returns-then-is_letter : goal.returns-then-is_letter
returns-then-is_letter c = c.from-then-is_letter.ensures ∙ digit_letter _ c.upper.ensures c.if-is_letter.true c.is_letter.ensures c.if-is_digit.false c.is_digit.ensures

pub returns : goal.returns
returns c = search digit_none
