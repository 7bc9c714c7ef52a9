-- What any bytes hold as a line index (document 02, No. 13: "Looking up a target in the index is proved equal to searching the full list,
-- first match taken, and reading the index back gives the same entries"). An entry that does not lie whole within the bytes is no entry.
-- Assumes nothing.
use Rattle.std.specs.Prelude.{ℕ, zero, suc, Option, Some, None, ◌+◌, ◌-◌, ◌*◌, ◌/◌, min, cond, List, [], ◌∷◌, map, eqb, length}
use Rattle.base_bits.specs.Bits.{field_at}
use Rattle.image_readers.specs.IndexLines.{IndexLine}
use Rattle.image_index.specs.Index.{IndexJump}
use Rattle.image_index_entries.specs.declared.Numbers.{Numbers}
use Rattle.image_index_entries.specs.declared.Kind.{Kind}
use Rattle.image_index_entries.specs.declared.Kind.TheVariants.{Line, Jump}

-- two fields, one behind the other
pub record Two : Type 0 where
  pub first : ℕ
  pub second : ℕ

abbrev pub two_at : ℕ → List ℕ → ℕ → Two
two_at width x at = record { first = field_at x at width; second = field_at x (at + width) 16 }

-- so many pairs from a bit offset on, the second field of each of 16 bits
unfoldable pub pairs_read : ℕ → List ℕ → ℕ → ℕ → List Two
unfolding field_at
pairs_read width x at zero = []
pairs_read width x at (suc n) = two_at width x at ∷ pairs_read width x (at + (width + 16)) n

-- "a 16-bit line count"
abbrev pub count_held : List ℕ → ℕ
count_held x = field_at x 0 16

-- "then per line the 16-bit number and 16-bit link offset": as many as the count says, and lie whole within the bytes
unfoldable pub line_pairs : List ℕ → List Two
unfolding pairs_read
line_pairs x = pairs_read 16 x 16 (min (count_held x) ((8 * length x - 16) / 32))

-- "then per jump 13 bits of its line's place from 1 and 16 bits of target number": how many follows from the length
unfoldable pub jump_pairs : List ℕ → List Two
unfolding pairs_read
jump_pairs x = let from = 16 + 32 * count_held x in pairs_read 13 x from ((8 * length x - from) / 29)

abbrev pub line_of : Two → IndexLine
line_of t = record { number = t.first; offset = t.second }

abbrev pub jump_of : Two → IndexJump
jump_of t = record { place = t.first; target = t.second }

-- the index, read back
unfoldable pub lines_held : List ℕ → List IndexLine
unfolding line_pairs
lines_held x = map line_of (line_pairs x)

unfoldable pub jumps_held : List ℕ → List IndexJump
unfolding jump_pairs
jumps_held x = map jump_of (jump_pairs x)

abbrev pub numbers : ℕ → ℕ → Option Numbers
numbers a b = Some (record { first = a; second = b })

-- the pair at a place from 1
unfoldable pub entry_in : List Two → ℕ → Option Numbers
entry_in [] place = None
entry_in (t ∷ ts) place = cond (eqb place 1) (numbers t.first t.second) (entry_in ts (place - 1))

abbrev pub entry_of : Kind → ℕ → List ℕ → Option Numbers
entry_of Line place x = entry_in (line_pairs x) place
entry_of Jump place x = entry_in (jump_pairs x) place

-- the first line with a number: its place from 1, v lines being before these, and its offset
unfoldable pub first_line : ℕ → ℕ → List IndexLine → Option Numbers
first_line number v [] = None
first_line number v (l ∷ ls) = cond (eqb l.number number) (numbers (v + 1) l.offset) (first_line number (v + 1) ls)

-- "searching the full list, first match taken"
unfoldable pub look_up : ℕ → List ℕ → Option Numbers
unfolding first_line lines_held
look_up number x = first_line number 0 (lines_held x)
