-- Numbers in an escape: a byte in digits or hex digits, and a count (document 01, "Escapes": "all digits up to 255; `$` and hex digits
-- up to 255"; "a count above 0 that fits 64 bits (a leading `+` is allowed)"). A number is taken by its value: leading zeros are free.
-- Assumes nothing.
use Rattle.std.specs.Prelude.{ℕ, ◌+◌, ◌-◌, ◌*◌, ◌^◌, true, false, cond, List, [], ◌∷◌, leb, ltb, eqb}
use Rattle.base_ascii.specs.Bytes.{is_digit, is_letter, upper}
use Rattle.std.specs.Prelude.{Option, Some, None}

-- what a byte counts as a digit: 0 to 9, and a letter from 10 on, without regard to case; 36, a digit of no base in use, for the rest
unfoldable pub digit_of : ℕ → ℕ
digit_of b = cond (is_digit b) (b - 48) (cond (is_letter b) (upper b - 55) 36)

-- the number that digits make behind those that made n, if it is within the limit
unfoldable pub number_after : ℕ → ℕ → ℕ → List ℕ → Option ℕ
number_after base limit n [] = elim (leb n limit) [ true ↦ Some n | false ↦ None ]
number_after base limit n (b ∷ s) =
    elim (ltb (digit_of b) base) [ true ↦ number_after base limit (n * base + digit_of b) s | false ↦ None ]

-- the number that a text of one or more digits is, if it is within the limit
unfoldable pub number_of : ℕ → ℕ → List ℕ → Option ℕ
number_of base limit [] = None
number_of base limit (b ∷ s) = number_after base limit 0 (b ∷ s)

-- $ and hex digits, up to 255
unfoldable pub hex_of : List ℕ → Option ℕ
hex_of [] = None
hex_of (b ∷ s) = elim (eqb b 36) [ true ↦ number_of 16 255 s | false ↦ None ]

-- a leading + is left out
unfoldable pub unsigned : List ℕ → List ℕ
unsigned [] = []
unsigned (b ∷ s) = elim (eqb b 43) [ true ↦ s | false ↦ b ∷ s ]

-- a count: digits that fit 64 bits, a leading + allowed
unfoldable pub count_of : List ℕ → Option ℕ
count_of t = number_of 10 (2 ^ 64 - 1) (unsigned t)
