-- For the contracts of `number_line` and `digits_in` alone: where the parts of a line stand. The rule is in Numbering.antt.
-- Assumes nothing.
use Rattle.std.specs.Prelude.{ℕ, ◌+◌, ◌-◌, min, List, length, take, drop}
use Rattle.base_ascii.specs.Bytes.{is_digit, is_space}
use Rattle.base_ascii.specs.Search.{front}
use Rattle.base_ascii.specs.Trim.{trim}
use Rattle.text_numbers.specs.Numbering.{ReadLine, blank_line, missing_number, number_too_high, numbered_text, decimal_from, read_line}
use Rattle.text_numbers.specs.declared.Digits.{Digits}
use Rattle.text_numbers.specs.declared.Numbering.{Numbering}
use Rattle.text_numbers.specs.declared.Numbering.TheVariants.{Blank, Missing, OutOfRange, Numbered}

-- how many digits stand in front of a text, and their value, cut at 32 bits
unfoldable pub digits_in : List ℕ → Digits
unfolding decimal_from front
digits_in t = record { count = front is_digit t; value = min (decimal_from 0 t) 4294967295 }

-- where the trimmed line ends: it stands behind the white space in front
abbrev pub trimmed_end : List ℕ → ℕ
trimmed_end l = front is_space l + length (trim l)

-- what was read of a line, its text as a part of the line: it ends where the trimmed line does
abbrev pub placed : List ℕ → ReadLine → Numbering
placed l blank_line = Blank
placed l missing_number = Missing
placed l (number_too_high value) = OutOfRange value
placed l (numbered_text number text) = Numbered number (trimmed_end l - length text) (trimmed_end l)

-- the other way: what was read of a line, by its numbering
abbrev pub told : List ℕ → Numbering → ReadLine
told l Blank = blank_line
told l Missing = missing_number
told l (OutOfRange value) = number_too_high value
told l (Numbered number from to) = numbered_text number (take (to - from) (drop from l))

unfoldable pub numbering : List ℕ → Numbering
unfolding read_line front trim
numbering l = placed l (read_line l)
