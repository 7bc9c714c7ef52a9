-- What `find` shows of a line that it sought by its number (docs/DESK.md, "Lines by number").
-- Assumes nothing.
use Rattle.std.specs.Prelude.{ℕ, List, []}
use Rattle.word_search.specs.Spelling.{bytes_of}
use Rattle.say_put.specs.Rows.{row_text}
use Rattle.image_readers.specs.declared.Line.{Line}

unfoldable pub found_row : Line → ℕ → List ℕ
unfolding row_text
found_row l visited = row_text [] (bytes_of "address #, link #, headers visited #") l.address l.link visited

-- no line has the number; what was read stands in front
unfoldable pub missing_row : List ℕ → ℕ → ℕ → List ℕ
unfolding row_text
missing_row name number visited = row_text name (bytes_of ": no line #, headers visited #") number visited 0
