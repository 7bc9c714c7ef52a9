-- Bytes as ASCII characters (ISO/IEC 646): ranges, letters without regard to case, digits, white space.
-- Document 01: "without regard to case"; "Text lines", "White space for trimming is 09 to 0D and 20".
-- Assumes nothing.
use Rattle.std.specs.Prelude.{ℕ, ◌-◌, Bool, true, false, cond, ◌&&◌, ◌||◌, List, [], ◌∷◌, leb, ltb, eqb}

-- one of the bytes low to high
unfoldable pub between : ℕ → ℕ → ℕ → Bool
between low high b = leb low b && leb b high

-- a to z become A to Z, any other byte is itself
unfoldable pub upper : ℕ → ℕ
unfolding between
upper b = cond (between 97 122 b) (b - 32) b

abbrev pub is_digit : ℕ → Bool
is_digit b = between 48 57 b

abbrev pub is_letter : ℕ → Bool
is_letter b = between 65 90 (upper b)

-- the white space that trimming removes
abbrev pub is_space : ℕ → Bool
is_space b = eqb b 32 || between 9 13 b

-- each byte is below 80
unfoldable pub is_ascii : List ℕ → Bool
is_ascii [] = true
is_ascii (b ∷ s) = elim (ltb b 0x80) [ true ↦ is_ascii s | false ↦ false ]
