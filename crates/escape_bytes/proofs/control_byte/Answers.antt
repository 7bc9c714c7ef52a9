-- `escape_bytes::control_byte` meets its contract.
-- Assumes nothing.
use Rattle.escape_numbers.proofs.Codes.{digit_low, digit_place, letter_low}
use Rattle.escape_bytes.proofs.Keying.{control_digit, control_letter, control_other}
use Rattle.escape_bytes.proofs.control_byte.Goals as goal

pub overflow_sub-b : goal.overflow_sub-b
overflow_sub-b c = search digit_low

pub ctrl_digit_byte-requires : goal.ctrl_digit_byte-requires
ctrl_digit_byte-requires c = search digit_place

pub returns-then-is_digit : goal.returns-then-is_digit
returns-then-is_digit c = search control_digit

pub overflow_sub-result : goal.overflow_sub-result
overflow_sub-result c = search letter_low

pub returns-then-is_letter : goal.returns-then-is_letter
returns-then-is_letter c = search control_letter

pub returns : goal.returns
returns c = search control_other
