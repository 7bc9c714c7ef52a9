-- What `jumps` shows (docs/DESK.md): a row for each number that is jumped to: the number, whether a line has it, and the lines of its jumps.
-- Assumes nothing.
use Rattle.std.specs.Prelude.{ℕ, zero, suc, ◌+◌, Bool, true, false, cond, List, [], ◌∷◌, ◌++◌, eqb, length, get_or}
use Rattle.word_search.specs.Spelling.{bytes_of}
use Rattle.say_put.specs.Rows.{filled}
use Rattle.image_marks.specs.Marks.{has_mark}
use Rattle.image_index_entries.specs.Entries.{entry_in, jump_pairs}
use Rattle.image_references.specs.References.{source_of}

unfoldable pub target_text : ℕ → Bool → List ℕ
unfolding filled
target_text n true = filled (bytes_of "#:") n 0 0
target_text n false = filled (bytes_of "# (missing):") n 0 0

-- of at most so many jumps to one number, the places that the threads tell from one on: `chained_places` has it that they are all
unfoldable pub places_on : List ℕ → ℕ → ℕ → List ℕ
places_on nexts zero p = []
places_on nexts (suc k) p = p ∷ cond (eqb (get_or nexts p 0) 0) [] (places_on nexts k (get_or nexts p 0))

-- the lines that the jumps at some places of an index stand in
unfoldable pub sources_text : List ℕ → List ℕ → List ℕ
unfolding filled entry_in jump_pairs
sources_text x [] = []
sources_text x (p ∷ ps) = filled (bytes_of " #") (source_of x p) 0 0 ++ sources_text x ps

unfoldable pub jump_row : List ℕ → List ℕ → ℕ → ℕ → Bool → List ℕ
unfolding target_text places_on sources_text
jump_row x nexts n first there = target_text n there ++ (sources_text x (places_on nexts (length nexts) first) ++ (0x0A ∷ []))

-- the rows of so many numbers from one on: those that have a first jump
unfoldable pub jump_rows : List ℕ → List ℕ → List ℕ → List ℕ → ℕ → ℕ → List ℕ
unfolding jump_row
jump_rows x firsts nexts marked n zero = []
jump_rows x firsts nexts marked n (suc k) =
    cond (eqb (get_or firsts n 0) 0) (jump_rows x firsts nexts marked (n + 1) k)
    (jump_row x nexts n (get_or firsts n 0) (has_mark marked n) ++ jump_rows x firsts nexts marked (n + 1) k)

unfoldable pub jumps_text : List ℕ → List ℕ → List ℕ → List ℕ → List ℕ
unfolding jump_rows
jumps_text x firsts nexts marked = jump_rows x firsts nexts marked 0 (length firsts)
