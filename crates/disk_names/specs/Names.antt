-- Names of files on a disk as a person gives them (docs/DECISIONS.md, "The desk's disks"): "a letter, small or capital, is the PETSCII capital, 41 to 5A; any
-- other character from space to _ is itself; two hex digits between braces are any byte; what stands for no byte gives A0". And as
-- they are shown: "the characters from space to _, but =, are themselves, and every other byte stands in braces".
-- Assumes nothing.
use Rattle.std.specs.Prelude.{ℕ, zero, suc, ◌+◌, ◌-◌, ◌*◌, Bool, cond, not, ◌&&◌, List, [], ◌∷◌, ◌++◌, leb, eqb, length, get_or}
use Rattle.base_ascii.specs.Bytes.{between, upper, is_digit}
use Rattle.list_bytes.specs.ByteTexts.{hex_byte}
use Rattle.std.specs.Prelude.{Option, Some, None}

-- the value of a hex digit, small or capital, and 16 for any other byte
unfoldable pub digit_value : ℕ → ℕ
unfolding between upper
digit_value b = cond (is_digit b) (b - 48) (cond (between 65 70 (upper b)) (upper b - 55) 16)

-- "two hex digits between braces", in front of a text
unfoldable pub byte_form : List ℕ → Option ℕ
unfolding digit_value
byte_form s =
    cond (leb 4 (length s) && eqb (get_or s 0 0) 0x7B && eqb (get_or s 3 0) 0x7D && leb (digit_value (get_or s 1 0)) 15 && leb (digit_value (get_or s 2 0)) 15)
    (Some (16 * digit_value (get_or s 1 0) + digit_value (get_or s 2 0)))
    None

-- any other character: its capital, or A0, which no name may hold
unfoldable pub character_byte : ℕ → ℕ
unfolding between upper
character_byte b = cond (between 0x20 0x5F (upper b)) (upper b) 0xA0

-- the name that a text stands for behind so many characters
unfoldable pub name_behind : ℕ → List ℕ → List ℕ
unfolding byte_form character_byte
name_behind k [] = []
name_behind (suc k) (b ∷ s) = name_behind k s
name_behind zero (b ∷ s) = elim (byte_form (b ∷ s)) [ Some v ↦ v ∷ name_behind 3 s | None ↦ character_byte b ∷ name_behind 0 s ]

abbrev pub name_given : List ℕ → List ℕ
name_given text = name_behind 0 text

-- whether a byte of a name is shown as itself
abbrev pub is_shown : ℕ → Bool
is_shown b = not (eqb b 0x3D) && between 0x20 0x5F b

unfoldable pub byte_shown : ℕ → List ℕ
unfolding between hex_byte
byte_shown b = cond (is_shown b) (b ∷ []) (0x7B ∷ hex_byte b ++ (0x7D ∷ []))

unfoldable pub name_shown : List ℕ → List ℕ
unfolding byte_shown
name_shown [] = []
name_shown (b ∷ s) = byte_shown b ++ name_shown s
