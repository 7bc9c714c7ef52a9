-- `text_numbers::digits_in` meets its contract.
-- Assumes nothing.
use Rattle.text_numbers.proofs.Numbers.{valued_start, valued_stop, digit_low, valued_turn, valued_end}
use Rattle.text_numbers.proofs.digits_in.Goals as goal

pub loop-count-init : goal.loop-count-init
loop-count-init c = search valued_start

pub returns-then-not-is_digit : goal.returns-then-not-is_digit
returns-then-not-is_digit c = search valued_stop

pub overflow_sub-b : goal.overflow_sub-b
overflow_sub-b c = search digit_low

pub loop-count-preserved : goal.loop-count-preserved
loop-count-preserved c = search valued_turn

pub returns : goal.returns
returns c = search valued_end
