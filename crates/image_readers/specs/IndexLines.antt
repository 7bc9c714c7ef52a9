-- A line by its number and its place (document 02, No. 13: "per line the 16-bit number and 16-bit link offset"), and whether a line has a
-- number.
-- Assumes nothing.
use Rattle.std.specs.Prelude.{ℕ, ◌-◌, Bool, false, ◌||◌, List, [], ◌∷◌, eqb}
use Rattle.image_readers.specs.declared.Line.{Line}

-- a line of an index: its number, and the offset of its own link
pub record IndexLine : Type 0 where
  pub number : ℕ
  pub offset : ℕ

-- link and number stand before a body
abbrev pub index_line : Line → IndexLine
index_line l = record { number = l.number; offset = l.from - 4 }

-- a line has this number
unfoldable pub has_line : List IndexLine → ℕ → Bool
has_line [] n = false
has_line (l ∷ ls) n = eqb l.number n || has_line ls n
