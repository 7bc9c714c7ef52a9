-- What the machine makes of four programs, which is where the limits of No. 1 come from. Each is one line 10 at 0801.
-- Assumes nothing.
use Rattle.std.specs.Prelude.{ℕ, ◌≡◌, List, [], ◌∷◌, replicate}
use Rattle.base_refusals.specs.Answer.{done}
use Rattle.image_layout.specs.Layout.{image_of}
use Rattle.image_relink.specs.Relinking.{relinking, same, changed}

abbrev pub line_ten : List ℕ → List ℕ
line_ten body = image_of 0x0801 (record { number = 10; body = body } ∷ [])

abbrev pub RelinkedTable : Type 0
RelinkedTable =
    -- 10 PRINT "{0}": the zero within the string ends the line, whose link becomes 0809 in place of 080B
    (relinking (line_ten (0x99 ∷ 0x20 ∷ 0x22 ∷ 0x00 ∷ 0x22 ∷ [])) ≡ done (changed 2 0x0809))
    -- a body of no bytes: the 00 behind it is skipped, and the end marker's is taken for it
    × (relinking (line_ten []) ≡ done (changed 2 0x0807))
    -- a body of 250 bytes: its 00 stands at count 254, and the link stays
    × (relinking (line_ten (replicate 250 0x41)) ≡ done same)
    -- a body of 251 bytes: its 00 stands at count 255, and the count comes round to 0: the line links to itself
    × (relinking (line_ten (replicate 251 0x41)) ≡ done (changed 2 0x0801))
