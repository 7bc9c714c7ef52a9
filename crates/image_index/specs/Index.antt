-- A line index beside an image (document 02, No. 13: "a 16-bit line count, then per line the 16-bit number and 16-bit link offset, then
-- per jump 13 bits of its line's place from 1 and 16 bits of target number, fields packed most significant bit first, with zero bits to
-- the last byte's end"), and the report ("A report packs each jump with no target alike, in image order").
-- Assumes nothing.
use Rattle.std.specs.Prelude.{ℕ, ◌+◌, Bool, true, false, cond, ◌||◌, List, [], ◌∷◌, ◌++◌, map, ltb, length}
use Rattle.base_refusals.specs.Answer.{Answer, done, refused, map_done, and_then}
use Rattle.base_refusals.specs.Numbers.{too_many_lines, target_too_high}
use Rattle.image_readers.specs.declared.Line.{Line}
use Rattle.image_readers.specs.Bodies.{body_of}
use Rattle.image_readers.specs.IndexLines.{IndexLine, index_line, has_line}
use Rattle.image_readers.specs.Lines.{lines_from, lines_of}
use Rattle.image_readers.specs.Links.{link_step}
use Rattle.image_jumps.specs.Jumps.{jumps_from, jumps_of}
use Rattle.base_bits.specs.Bits.{Field, field, packed}

-- a jump: its line's place from 1, and its target
pub record IndexJump : Type 0 where
  pub place : ℕ
  pub target : ℕ

pub record LineIndex : Type 0 where
  pub lines : List IndexLine
  pub jumps : List IndexJump

abbrev pub jump_to : ℕ → ℕ → IndexJump
jump_to place target = record { place = place; target = target }

-- the jumps of lines, v lines being before these
unfoldable pub jumps_in : List ℕ → ℕ → List Line → List IndexJump
unfolding jumps_from
jumps_in s v [] = []
jumps_in s v (l ∷ ls) = map (jump_to (v + 1)) (jumps_of (body_of s l)) ++ jumps_in s (v + 1) ls

-- a target is above 65535
unfoldable pub any_too_high : List IndexJump → Bool
any_too_high [] = false
any_too_high (j ∷ js) = ltb 65535 j.target || any_too_high js

-- "Refusals, after 7 to 13: 27 TooManyLines above 8,191, then over all jumps 28 TargetTooHigh above 65535"
abbrev pub index_lines : List ℕ → List Line → Answer LineIndex
index_lines s ls =
    cond (ltb 8191 (length ls)) (refused too_many_lines)
    (cond (any_too_high (jumps_in s 0 ls)) (refused target_too_high)
    (done (record { lines = map index_line ls; jumps = jumps_in s 0 ls })))

-- the lines and jumps of an image
unfoldable pub indexed : List ℕ → Answer LineIndex
unfolding lines_from link_step jumps_in any_too_high
indexed s = and_then (lines_of link_step s) (index_lines s)

-- ---- as fields

unfoldable pub line_fields : List IndexLine → List Field
line_fields [] = []
line_fields (l ∷ ls) = field 16 l.number ∷ field 16 l.offset ∷ line_fields ls

unfoldable pub jump_fields : List IndexJump → List Field
jump_fields [] = []
jump_fields (j ∷ js) = field 13 j.place ∷ field 16 j.target ∷ jump_fields js

unfoldable pub index_fields : LineIndex → List Field
unfolding line_fields jump_fields
index_fields x = field 16 (length x.lines) ∷ line_fields x.lines ++ jump_fields x.jumps

-- the index of an image
unfoldable pub line_index : List ℕ → Answer (List ℕ)
unfolding indexed index_fields packed
line_index s = map_done (λ x. packed (index_fields x)) (indexed s)

-- ---- the report

-- the jumps whose target no line has
unfoldable pub without_line : List IndexLine → List IndexJump → List IndexJump
unfolding has_line
without_line ls [] = []
without_line ls (j ∷ js) = elim (has_line ls j.target) [ true ↦ without_line ls js | false ↦ j ∷ without_line ls js ]

-- the report on an image
unfoldable pub jump_report : List ℕ → Answer (List ℕ)
unfolding indexed jump_fields without_line packed
jump_report s = map_done (λ x. packed (jump_fields (without_line x.lines x.jumps))) (indexed s)
