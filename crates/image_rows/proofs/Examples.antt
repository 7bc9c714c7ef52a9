-- Rows as docs/DESK.md shows them, computed.
-- Assumes nothing.
use mathlib.Core.Path.{◌≡◌, refl}
use mathlib.Core.Bool.{true, false}
use mathlib.Core.List.{[], ◌∷◌, ◌++◌}
use Rattle.word_search.specs.Spelling.{bytes_of}
use Rattle.image_readers.specs.declared.Line.{Line}
use Rattle.image_rows.specs.Found.{found_row, missing_row}
use Rattle.image_rows.specs.Places.{place_rows}
use Rattle.image_rows.specs.Jumps.{target_text}

-- two lines of an image
first : Line
first = record { address = 2049; link = 2060; number = 10; from = 6; to = 12; next = 13 }

second : Line
second = record { address = 2060; link = 2070; number = 30; from = 17; to = 22; next = 23 }

found_shown : found_row first 1 ≡ bytes_of "address 2049, link 2060, headers visited 1" ++ (0x0A ∷ [])
unfolding found_row first
found_shown = refl

missing_shown : missing_row (bytes_of "hello.prg") 20 2 ≡ bytes_of "hello.prg: no line 20, headers visited 2" ++ (0x0A ∷ [])
unfolding missing_row
missing_shown = refl

-- the second line comes from no known text line
places_shown_lem : place_rows (first ∷ second ∷ []) (7 ∷ [])
    ≡ bytes_of "10" ++ (0x09 ∷ bytes_of "2049" ++ (0x09 ∷ bytes_of "7" ++ (0x0A ∷ bytes_of "30" ++ (0x09 ∷ bytes_of "2060" ++ (0x0A ∷ [])))))
unfolding place_rows first second
places_shown_lem = refl

there_shown : target_text 100 true ≡ bytes_of "100:"
unfolding target_text
there_shown = refl

not_there_shown : target_text 100 false ≡ bytes_of "100 (missing):"
unfolding target_text
not_there_shown = refl
