-- `list_lines::decimal::put_decimal` meets its contract.
-- Assumes nothing.
use Rattle.list_spelling.proofs.Spelling.{put_of}
use Rattle.list_lines.proofs.Digits.{places_few, digits_are}
use Rattle.list_lines.proofs.decimal.put_decimal.Goals as goal

pub overflow_sub-from : goal.overflow_sub-from
overflow_sub-from c = search places_few

pub returns : goal.returns
returns c = search (put_of, digits_are)
