-- Fields packed into bytes, and read back (document 02, No. 13: "fields packed most significant bit first, with zero bits to the last
-- byte's end"). A bit is 0 or 1.
-- Assumes nothing.
use Rattle.std.specs.Prelude.{ℕ, zero, suc, ◌+◌, ◌-◌, ◌*◌, ◌/◌, ◌%◌, ◌^◌, true, false, List, [], ◌∷◌, ◌++◌, eqb, take, drop}

-- a number in so many bits
pub record Field : Type 0 where
  pub width : ℕ
  pub value : ℕ

abbrev pub field : ℕ → ℕ → Field
field width value = record { width = width; value = value }

-- the lowest so many bits of a number, most significant first
unfoldable pub bits_of : ℕ → ℕ → List ℕ
bits_of zero v = []
bits_of (suc w) v = (v / 2 ^ w % 2) ∷ bits_of w v

-- fields one behind the other
unfoldable pub field_bits : List Field → List ℕ
unfolding bits_of
field_bits [] = []
field_bits (f ∷ fs) = bits_of f.width f.value ++ field_bits fs

-- bits eight to a byte, behind n bits of the value v that begin a byte; zero bits to the last byte's end
unfoldable pub pack_from : ℕ → ℕ → List ℕ → List ℕ
pack_from v n [] = elim (eqb n 0) [ true ↦ [] | false ↦ (v * 2 ^ (8 - n)) ∷ [] ]
pack_from v n (b ∷ bs) = elim (eqb n 7) [ true ↦ (2 * v + b) ∷ pack_from 0 0 bs | false ↦ pack_from (2 * v + b) (n + 1) bs ]

-- the bytes of fields
unfoldable pub packed : List Field → List ℕ
unfolding pack_from field_bits
packed fs = pack_from 0 0 (field_bits fs)

-- and back: the bits of bytes
unfoldable pub bytes_bits : List ℕ → List ℕ
unfolding bits_of
bytes_bits [] = []
bytes_bits (b ∷ bs) = bits_of 8 b ++ bytes_bits bs

-- the number that bits are, behind bits of the value v
unfoldable pub number_from : ℕ → List ℕ → ℕ
number_from v [] = v
number_from v (b ∷ bs) = number_from (2 * v + b) bs

-- the field of so many bits at a bit offset
unfoldable pub field_at : List ℕ → ℕ → ℕ → ℕ
unfolding number_from bytes_bits
field_at bytes at width = number_from 0 (take width (drop at (bytes_bits bytes)))
