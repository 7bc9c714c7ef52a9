-- The text of one byte, and hex digits (document 01, "Reading and listing": the rules behind "Else:").
-- Assumes nothing.
use Rattle.std.specs.Prelude.{ℕ, ◌-◌, ◌/◌, ◌%◌, cond, List, [], ◌∷◌, ◌++◌, eqb, get_or}
use Rattle.base_ascii.specs.Bytes.{between}
use Rattle.word_search.specs.Spelling.{bytes_of}

-- hex is upper case
unfoldable pub hex_digits : List ℕ
hex_digits = bytes_of "0123456789ABCDEF"

-- the two digits of a byte
unfoldable pub hex_byte : ℕ → List ℕ
unfolding hex_digits
hex_byte b = get_or hex_digits (b / 16) 0 ∷ get_or hex_digits (b % 16) 0 ∷ []

-- a byte that is listed as a character
unfoldable pub byte_text : ℕ → List ℕ
unfolding hex_byte
byte_text b =
    cond (eqb b 0) (bytes_of "{null}")
    (cond (eqb b 0x0D) (0x0A ∷ [])
    (cond (between 0x20 0x5F b) (b ∷ [])
    (cond (eqb b 0x60) (0xE2 ∷ 0x94 ∷ 0x80 ∷ [])
    (cond (between 0xC1 0xDA b) ((b - 0x80) ∷ [])
    (bytes_of "{$" ++ (hex_byte b ++ bytes_of "}"))))))

-- a byte of a remark (document 02, No. 6): "lists 61 to 7A as themselves"
unfoldable pub remark_text : ℕ → List ℕ
unfolding byte_text
remark_text b = cond (between 0x61 0x7A b) (b ∷ []) (byte_text b)
