-- `disk_names::digit_value` meets its contract.
-- Assumes nothing.
use Rattle.disk_names.proofs.Naming.{digit_above, digit_is, letter_above, letter_is, no_digit}
use Rattle.disk_names.proofs.digit_value.Goals as goal

pub overflow_sub-result : goal.overflow_sub-result
overflow_sub-result c = search digit_above

pub returns-then-is_digit : goal.returns-then-is_digit
returns-then-is_digit c = search digit_is

pub overflow_sub-result-then-between : goal.overflow_sub-result-then-between
overflow_sub-result-then-between c = search letter_above

pub returns-then-between : goal.returns-then-between
returns-then-between c = search letter_is

pub returns : goal.returns
returns c = search no_digit
