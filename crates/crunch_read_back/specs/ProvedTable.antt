-- Document 01, "Proved table (P) and run cases": every case marked P, in the order of the document, as a single table about the
-- definitions. A body is that of a line 10 at 0801 under Auto.
-- Assumes nothing.
use Rattle.std.specs.Prelude.{ℕ, ◌≡◌, false, List, [], ◌∷◌, ◌++◌}
use Prim.Native.String.{String}
use Rattle.base_refusals.specs.Answer.{Answer, done, refused}
use Rattle.base_refusals.specs.Numbers.{missing_line_number, line_number_out_of_range, address_overflow, unexpected_eof, missing_end, link_backward, link_outside, link_no_end}
use Rattle.word_search.specs.Spelling.{bytes_of}
use Rattle.word_dialects.specs.declared.Dialect.TheVariants.{Auto}
use Rattle.image_readers.specs.NumberedBody.{NumberedBody}
use Rattle.image_readers.specs.Lines.{lines_of, overview}
use Rattle.image_readers.specs.Bodies.{bodies_of}
use Rattle.image_readers.specs.Links.{link_step}
use Rattle.image_readers.specs.Terminators.{terminator_step}
use Rattle.crunch_rules.specs.Crunched.{crunched_lines, crunched}

infix 60 ◌crunched_at◌
abbrev pub ◌crunched_at◌ : String → ℕ → Answer (List ℕ)
text crunched_at load = crunched (record { load = load; dialect = Auto; profile = false; forms = false }) (bytes_of text)

-- one line, 10
abbrev pub ten : List ℕ → Answer (List NumberedBody)
ten body = done (record { number = 10; body = body } ∷ [])

-- the lines of a text
abbrev pub lines_in : String → Answer (List NumberedBody)
lines_in text = crunched_lines (record { load = 0x0801; dialect = Auto; profile = false; forms = false }) (bytes_of text)

-- an image of one line, 10 with the body 99, and the link of these two bytes
abbrev pub linked_by : ℕ → ℕ → List ℕ
linked_by low high = 0x01 ∷ 0x08 ∷ low ∷ high ∷ 0x0A ∷ 0x00 ∷ 0x99 ∷ 0x00 ∷ 0x00 ∷ 0x00 ∷ []

-- the image of `10 PRINT "{0}"` at 0801
abbrev pub prints_zero : List ℕ
prints_zero = 0x01 ∷ 0x08 ∷ 0x0B ∷ 0x08 ∷ 0x0A ∷ 0x00 ∷ 0x99 ∷ 0x20 ∷ 0x22 ∷ 0x00 ∷ 0x22 ∷ 0x00 ∷ 0x00 ∷ 0x00 ∷ []

abbrev pub ProvedTable : Type 0
ProvedTable =
    -- "empty text at FFFF: FF FF 00 00"
    ("" crunched_at 0xFFFF ≡ done (0xFF ∷ 0xFF ∷ 0x00 ∷ 0x00 ∷ []))
    -- "`1` at FFFA: FA FF FF FF 01 00 00 00 00; at FFFB: 5"
    × ("1" crunched_at 0xFFFA ≡ done (0xFA ∷ 0xFF ∷ 0xFF ∷ 0xFF ∷ 0x01 ∷ 0x00 ∷ 0x00 ∷ 0x00 ∷ 0x00 ∷ []))
    × ("1" crunched_at 0xFFFB ≡ refused address_overflow)
    -- "`65536`: 4, line 1", "LF LF `X`: 3, line 3"
    × ("65536" crunched_at 0x0801 ≡ refused (line_number_out_of_range 1 65536))
    × (crunched (record { load = 0x0801; dialect = Auto; profile = false; forms = false }) (0x0A ∷ 0x0A ∷ bytes_of "X") ≡ refused (missing_line_number 3))
    -- "body `{sh *}` in quotes: 22 C0 22", "`{space*0}` in quotes: 22, the text `{SPACE*0}`, 22"
    × (lines_in "10 \"{sh *}\"" ≡ ten (0x22 ∷ 0xC0 ∷ 0x22 ∷ []))
    × (lines_in "10 \"{space*0}\"" ≡ ten (0x22 ∷ bytes_of "{SPACE*0}" ++ 0x22 ∷ []))
    -- "image 01 08 00: 9 by terminators; 01 08: no lines, but 10 by links"
    × (overview terminator_step (0x01 ∷ 0x08 ∷ 0x00 ∷ []) ≡ refused unexpected_eof)
    × (lines_of terminator_step (0x01 ∷ 0x08 ∷ []) ≡ done [])
    × (overview link_step (0x01 ∷ 0x08 ∷ []) ≡ refused (missing_end 2))
    -- "01 08 07 08 0A 00 99 00 00 00 has body 99 both ways; link 0805 gives 11, 0900 gives 12, 0806 gives 13, each at offset 2"
    × (bodies_of terminator_step (linked_by 0x07 0x08) ≡ ten (0x99 ∷ []))
    × (bodies_of link_step (linked_by 0x07 0x08) ≡ ten (0x99 ∷ []))
    × (overview link_step (linked_by 0x05 0x08) ≡ refused (link_backward 2))
    × (overview link_step (linked_by 0x00 0x09) ≡ refused (link_outside 2))
    × (overview link_step (linked_by 0x06 0x08) ≡ refused (link_no_end 2))
    -- "`10 PRINT "{0}"` at 0801: ..; by terminators the body is 99 20 22, by links 99 20 22 00 22"
    × ("10 PRINT \"{0}\"" crunched_at 0x0801 ≡ done prints_zero)
    × (bodies_of terminator_step prints_zero ≡ ten (0x99 ∷ 0x20 ∷ 0x22 ∷ []))
    × (bodies_of link_step prints_zero ≡ ten (0x99 ∷ 0x20 ∷ 0x22 ∷ 0x00 ∷ 0x22 ∷ []))
    -- "Auto, `10 DIR=5:HIRES 0,1`: body 44 49 52 B2 35 3A 64 01 20 30 2C 31"
    × (lines_in "10 DIR=5:HIRES 0,1" ≡ ten (0x44 ∷ 0x49 ∷ 0x52 ∷ 0xB2 ∷ 0x35 ∷ 0x3A ∷ 0x64 ∷ 0x01 ∷ 0x20 ∷ 0x30 ∷ 0x2C ∷ 0x31 ∷ []))
