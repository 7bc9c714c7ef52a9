-- `escapes::resolve_name` meets its contract.
-- Assumes nothing.
use Rattle.escape_numbers.proofs.Numbering.{decimal_byte, hex_byte_lem}
use Rattle.escapes.proofs.Resolving.{name_empty, name_decimal, name_hex, name_listed, name_keyed}
use Rattle.escapes.proofs.resolve_name.Goals as goal

pub returns-then-is_empty : goal.returns-then-is_empty
returns-then-is_empty c = search (name_empty, c.if-is_empty.ensures)

pub overflow_cast-result : goal.overflow_cast-result
overflow_cast-result c = search decimal_byte

pub returns-in-Some : goal.returns-in-Some
returns-in-Some c = search (name_decimal, c.if-is_empty.ensures)

pub overflow_cast-result-in-Some-hex_number : goal.overflow_cast-result-in-Some-hex_number
overflow_cast-result-in-Some-hex_number c = search hex_byte_lem

pub returns-in-Some-hex_number : goal.returns-in-Some-hex_number
returns-in-Some-hex_number c = search (name_hex, c.if-is_empty.ensures)

pub returns-in-Some-match_escape : goal.returns-in-Some-match_escape
returns-in-Some-match_escape c = search (name_listed, c.if-is_empty.ensures)

pub returns : goal.returns
returns c = search (name_keyed, c.if-is_empty.ensures)
