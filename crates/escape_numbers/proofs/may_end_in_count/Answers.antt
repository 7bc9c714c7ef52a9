-- `escape_numbers::may_end_in_count` meets its contract.
-- Assumes nothing.
use Rattle.escape_numbers.proofs.Counting.{countable_empty, countable_digit, countable_space}
use Rattle.escape_numbers.proofs.may_end_in_count.Goals as goal

pub returns-then-is_digit : goal.returns-then-is_digit
returns-then-is_digit c = countable_digit _ (c.in-Some.ensures.item.3.1 0) c.if-is_digit.true c.is_digit.ensures

pub returns-else-is_digit : goal.returns-else-is_digit
returns-else-is_digit c = countable_space _ (c.in-Some.ensures.item.3.1 0) c.is_space.ensures c.if-is_digit.false c.is_digit.ensures

pub returns-in-None : goal.returns-in-None
returns-in-None c = search (countable_empty, c.in-None.ensures)
