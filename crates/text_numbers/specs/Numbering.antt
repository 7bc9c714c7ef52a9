-- What a text line is (document 01, "Text lines": "A line blank after trimming is skipped. Otherwise both ends are trimmed, decimal
-- digits are taken (65535 is accepted, 65536 refused; a value past 32 bits is reported as 4,294,967,295), then spaces 20 only are
-- dropped, and the rest is crunched.").
-- Assumes nothing.
use Rattle.std.specs.Prelude.{ℕ, ◌+◌, ◌-◌, ◌*◌, min, true, false, List, [], ◌∷◌, leb}
use Rattle.base_ascii.specs.Bytes.{is_digit}
use Rattle.base_ascii.specs.Search.{equals, front, past}
use Rattle.base_ascii.specs.Trim.{trim}

-- a line, read: its number and the text that is crunched
pub data ReadLine : Type 0 where
  blank_line : ReadLine
  missing_number : ReadLine
  number_too_high : ℕ → ReadLine
  numbered_text : ℕ → List ℕ → ReadLine

-- the value of the digits in front, behind digits of the value v
unfoldable pub decimal_from : ℕ → List ℕ → ℕ
decimal_from v [] = v
decimal_from v (b ∷ s) = elim (is_digit b) [ true ↦ decimal_from (v * 10 + (b - 48)) s | false ↦ v ]

-- a trimmed line with a digit in front
unfoldable pub digits_read : List ℕ → ReadLine
unfolding decimal_from front
digits_read t =
    elim (leb (decimal_from 0 t) 65535) [
      | true ↦ numbered_text (decimal_from 0 t) (past (equals 0x20) (past is_digit t))
      | false ↦ number_too_high (min (decimal_from 0 t) 4294967295)
    ]

-- a trimmed line
unfoldable pub trimmed_read : List ℕ → ReadLine
unfolding digits_read
trimmed_read [] = blank_line
trimmed_read (b ∷ t) = elim (is_digit b) [ true ↦ digits_read (b ∷ t) | false ↦ missing_number ]

unfoldable pub read_line : List ℕ → ReadLine
unfolding trim trimmed_read
read_line l = trimmed_read (trim l)
