-- `escape_bytes::key_with` meets its contract.
-- Assumes nothing.
use Rattle.escape_numbers.proofs.Codes.{letter_low, letter_first, letter_place, letter_shifted}
use Rattle.escape_bytes.specs.Keys.{key_with}
use Rattle.escape_bytes.proofs.Keying.{for_key, commodore_letter, commodore_other, shift_letter, shift_other}
use Rattle.escape_bytes.proofs.key_with.Goals as goal

pub returns-in-Control : goal.returns-in-Control
unfolding key_with
returns-in-Control c = cc

pub overflow_sub-upper : goal.overflow_sub-upper
overflow_sub-upper c = search letter_first

pub cbm_letter_byte-requires : goal.cbm_letter_byte-requires
cbm_letter_byte-requires c = search letter_place

pub returns-in-Commodore : goal.returns-in-Commodore
returns-in-Commodore c = search (for_key, commodore_letter)

pub overflow_sub-result : goal.overflow_sub-result
overflow_sub-result c = search letter_low

pub overflow_add-result : goal.overflow_add-result
overflow_add-result c = search letter_shifted

pub returns-in-Shift : goal.returns-in-Shift
returns-in-Shift c = search (for_key, shift_letter)

pub returns-in_default : goal.returns-in_default
returns-in_default c = search (for_key, commodore_other)

pub returns-in_default-2 : goal.returns-in_default-2
returns-in_default-2 c = search (for_key, shift_other)
