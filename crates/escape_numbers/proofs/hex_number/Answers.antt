-- `escape_numbers::hex_number` meets its contract.
-- Assumes nothing.
use Rattle.escape_numbers.proofs.Numbering.{hex_empty, hex_other, hex_digits_lem}
use Rattle.escape_numbers.proofs.hex_number.Goals as goal

pub returns-in-36 : goal.returns-in-36
returns-in-36 c = search hex_digits_lem

pub returns-in_default : goal.returns-in_default
returns-in_default c = search hex_empty

pub returns-in_default-2 : goal.returns-in_default-2
returns-in_default-2 c = search hex_other
