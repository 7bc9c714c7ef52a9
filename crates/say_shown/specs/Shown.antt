-- Bytes from outside as a person is shown them (docs/DESK.md, "What is said"): a control, which a terminal would obey, as {$1B}, and every other byte as itself.
-- Assumes nothing.
use Rattle.std.specs.Prelude.{ℕ, ◌+◌, ◌/◌, ◌%◌, Bool, true, false, cond, List, [], ◌∷◌, ◌++◌, eqb, ltb}

-- below 20, or 7F
unfoldable pub is_control : ℕ → Bool
is_control b = cond (ltb b 0x20) true (eqb b 0x7F)

-- a hex digit, the letters capital
unfoldable pub capital_digit : ℕ → ℕ
capital_digit n = cond (ltb n 10) (48 + n) (55 + n)

unfoldable pub shown_byte : ℕ → List ℕ
unfolding is_control capital_digit
shown_byte b = cond (is_control b) (0x7B ∷ 0x24 ∷ capital_digit (b / 16) ∷ capital_digit (b % 16) ∷ 0x7D ∷ []) (b ∷ [])

unfoldable pub shown : List ℕ → List ℕ
unfolding shown_byte
shown [] = []
shown (b ∷ s) = shown_byte b ++ shown s

-- words as a line of their own: the only control is the line's end
unfoldable pub shown_line : List ℕ → List ℕ
unfolding shown
shown_line words = shown words ++ (0x0A ∷ [])

-- no byte is a control
unfoldable pub is_plain : List ℕ → Bool
unfolding is_control
is_plain [] = true
is_plain (b ∷ s) = cond (is_control b) false (is_plain s)
