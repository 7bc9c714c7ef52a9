-- The numbers that lines have, marked in lent bytes: the byte at a number is not 0 where a line has it.
-- Assumes nothing.
use Rattle.std.specs.Prelude.{ℕ, Bool, not, List, [], ◌∷◌, eqb, get_or, set}
use Rattle.image_readers.specs.declared.Line.{Line}

-- the numbers of lines marked, as far as the marks reach
unfoldable pub line_marks : List ℕ → List Line → List ℕ
line_marks marked [] = marked
line_marks marked (l ∷ ls) = line_marks (set marked l.number 1) ls

-- a number that the marks do not reach has none
abbrev pub has_mark : List ℕ → ℕ → Bool
has_mark marked n = not (eqb (get_or marked n 0) 0)
