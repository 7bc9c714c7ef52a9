-- Bytes of an image changed in place (document 02, No. 14): of the numbers and bodies of any set of lines, or of their links. A set is a
-- test of places; the first line's place is 0.
-- Assumes nothing.
use Rattle.std.specs.Prelude.{ℕ, suc, ◌+◌, ◌-◌, ◌<◌, ◌≡◌, Bool, true, false, ◌&&◌, ◌||◌, List, [], ◌∷◌, map, leb, ltb, length, get_or}
use Rattle.image_readers.specs.declared.Line.{Line}
use Rattle.image_bytes.specs.ImageBytes.{low_first_at}
use Rattle.image_readers.specs.Bodies.{body_of}
use Rattle.image_readers.specs.NumberedBody.{NumberedBody}
use Rattle.base_steps.specs.Each.{Each}
use Rattle.image_layout.specs.Layout.{image_of}
use Rattle.image_layout.specs.Reads.{lines_at}

-- s is t but at some offsets, where any bytes may stand
pub record ChangedAt (changes : ℕ → Bool) (t s : List ℕ) : Type 0 where
  pub long : length s ≡ length t
  pub others : (i : ℕ) → changes i ≡ false → get_or s i 0 ≡ get_or t i 0
  pub bytes : (i : ℕ) → changes i ≡ true → get_or s i 0 < 256

-- whether an offset is one of a line's number or body: the number stands in the two bytes before the body
abbrev pub number_or_body : Line → ℕ → Bool
number_or_body l i = leb l.from (i + 2) && ltb i l.to

-- whether it is one of a line's link, the two bytes before the number
abbrev pub link_byte : Line → ℕ → Bool
link_byte l i = leb l.from (i + 4) && ltb (i + 2) l.from

-- whether it is one of such a part of some line in the set
unfoldable pub in_some : (Line → ℕ → Bool) → (ℕ → Bool) → List Line → ℕ → Bool
in_some part set [] i = false
in_some part set (l ∷ ls) i = (set 0 && part l i) || in_some part (λ k. set (suc k)) ls i

-- s is the image of lines, but for bytes of the numbers and bodies of the lines in a set
pub record ChangedLines (set : ℕ → Bool) (load : ℕ) (ls : List NumberedBody) (s : List ℕ) : Type 0 where
  pub changed : ChangedAt (in_some number_or_body set (lines_at load 2 ls)) (image_of load ls) s

-- s is the image of lines, but for bytes of the links of the lines in a set, "keeping each high byte above 0"
pub record ChangedLinks (set : ℕ → Bool) (load : ℕ) (ls : List NumberedBody) (s : List ℕ) : Type 0 where
  pub changed : ChangedAt (in_some link_byte set (lines_at load 2 ls)) (image_of load ls) s
  pub high : Each (λ l. 0 < get_or s (l.from - 3) 0) (lines_at load 2 ls)

-- the number and the body that stand now in a line's place
abbrev pub line_now : List ℕ → Line → NumberedBody
line_now s l = record { number = low_first_at s (l.from - 2); body = body_of s l }

-- the lines as the bytes of s say them now
abbrev pub lines_now : ℕ → List NumberedBody → List ℕ → List NumberedBody
lines_now load ls s = map (line_now s) (lines_at load 2 ls)

-- "every line outside the set" is as before
abbrev pub KeptOutside : (ℕ → Bool) → List NumberedBody → List NumberedBody → Type 0
KeptOutside set ls now = (k : ℕ) (none : NumberedBody) → set k ≡ false → get_or now k none ≡ get_or ls k none
