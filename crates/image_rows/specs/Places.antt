-- What `where` shows (docs/DESK.md): a row for each line, its number, its address and, where it is known, the text line that it comes from, with tabs
-- between.
-- Assumes nothing.
use Rattle.std.specs.Prelude.{ℕ, List, [], ◌∷◌, ◌++◌, drop}
use Rattle.base_refusals.specs.Answer.{Answer, map_done}
use Rattle.say_put.specs.Rows.{filled}
use Rattle.image_readers.specs.declared.By.{By}
use Rattle.image_readers.specs.declared.Line.{Line}
use Rattle.image_readers.specs.Lines.{lines_from, lines_of}
use Rattle.image_readers.specs.Readers.{step_by}

-- a row without its end: # stands for a number, 09 for a tab
unfoldable pub place_text : Line → List ℕ → List ℕ
unfolding filled
place_text l [] = filled (0x23 ∷ 0x09 ∷ 0x23 ∷ []) l.number l.address 0
place_text l (o ∷ os) = filled (0x23 ∷ 0x09 ∷ 0x23 ∷ 0x09 ∷ 0x23 ∷ []) l.number l.address o

-- the rows of lines; origins are the text lines of the first so many
unfoldable pub place_rows : List Line → List ℕ → List ℕ
unfolding place_text
place_rows [] os = []
place_rows (l ∷ ls) os = place_text l os ++ (0x0A ∷ place_rows ls (drop 1 os))

-- those of an image, or why it has none
unfoldable pub places_shown : By → List ℕ → List ℕ → Answer (List ℕ)
unfolding place_rows lines_from step_by
places_shown by image origins = map_done (λ ls. place_rows ls origins) (lines_of (step_by by) image)
