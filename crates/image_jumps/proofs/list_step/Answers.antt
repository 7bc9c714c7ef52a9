-- `image_jumps::list_step` meets its contract.
-- Assumes nothing.
use Rattle.image_jumps.proofs.Stepping.{digit_low, list_digit, list_space, list_comma, list_other}
use Rattle.image_jumps.proofs.list_step.Goals as goal

pub overflow_sub-b : goal.overflow_sub-b
overflow_sub-b c = search digit_low

pub returns-then-is_digit : goal.returns-then-is_digit
returns-then-is_digit c = search list_digit

pub returns-then-b-eq32 : goal.returns-then-b-eq32
returns-then-b-eq32 c = search list_space

pub returns-then-b-eq44 : goal.returns-then-b-eq44
returns-then-b-eq44 c = search list_comma

pub returns : goal.returns
returns c = search (list_other, c.if-b-eq32.false, c.if-b-eq44.false)
