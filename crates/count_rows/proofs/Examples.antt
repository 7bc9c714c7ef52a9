-- Rows as docs/DESK.md shows them, computed.
-- Assumes nothing.
use mathlib.Core.Path.{◌≡◌, refl}
use mathlib.Core.List.{[], ◌∷◌, ◌++◌}
use Rattle.word_search.specs.Spelling.{bytes_of}
use Rattle.count_rows.specs.Rows.{head_with, counted_row}

head_shown : head_with 3 1 9 ≡ bytes_of "# images 3, refused 1, words 9" ++ (0x0A ∷ [])
unfolding head_with
head_shown = refl

word_shown : counted_row (bytes_of "PRINT") 3 333 ≡ bytes_of "PRINT" ++ (0x09 ∷ bytes_of "3" ++ (0x09 ∷ bytes_of "333" ++ (0x0A ∷ [])))
unfolding counted_row
word_shown = refl
