-- Fields packed, by computation: one line and one jump of an index (document 02, No. 13), and a field that ends with its byte.
-- Assumes nothing.
use mathlib.Core.Path.{◌≡◌, refl}
use mathlib.Core.List.{[], ◌∷◌}
use Rattle.base_bits.specs.Bits.{field, packed, field_at}

-- 16 bits of 1, 13 bits of 1, 16 bits of 10, and three zero bits
pub line_and_jump : packed (field 16 1 ∷ field 13 1 ∷ field 16 10 ∷ []) ≡ 0x00 ∷ 0x01 ∷ 0x00 ∷ 0x08 ∷ 0x00 ∷ 0x50 ∷ []
unfolding packed
line_and_jump = refl

pub whole_byte : packed (field 3 5 ∷ field 5 1 ∷ []) ≡ 0xA1 ∷ []
unfolding packed
whole_byte = refl

pub read_back : field_at (0x00 ∷ 0x01 ∷ 0x00 ∷ 0x08 ∷ 0x00 ∷ 0x50 ∷ []) 29 16 ≡ 10
unfolding field_at
read_back = refl
