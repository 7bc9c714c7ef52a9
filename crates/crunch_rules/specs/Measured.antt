-- The lines that a text's image will have, each with the text line that gives it (document 02, No. 8: "extend the line record that both
-- readers and the measuring pass share with its own address .., and the measuring pass with the text line counted from 1").
-- Assumes nothing.
use Rattle.std.specs.Prelude.{ℕ, suc, ◌+◌, cond, List, [], ◌∷◌, ◌++◌, eqb}
use Rattle.std.specs.Prelude.{Option, None, Some}
use Rattle.base_refusals.specs.Answer.{Answer, map_done}
use Rattle.base_ascii.specs.Trim.{trim}
use Rattle.text_lines.specs.declared.LineRule.TheVariants.{AfterCr}
use Rattle.text_lines.specs.TextLines.{text_lines}
use Rattle.image_readers.specs.declared.Line.{Line}
use Rattle.image_layout.specs.Reads.{lines_at}
use Rattle.crunch_rules.specs.Crunched.{crunched_lines}
use Rattle.crunch_rules.specs.declared.Options.{Options}
use Rattle.crunch_rules.specs.declared.MeasuredLine.{MeasuredLine}

-- "A line blank after trimming is skipped" (document 01, "Text lines"): a place, if the trimmed line there is not blank
abbrev pub unless_blank : ℕ → List ℕ → List ℕ
unless_blank k [] = []
unless_blank k (b ∷ t) = k ∷ []

-- the places of the nonblank ones among text lines, the first of which has the place k; blank lines are counted
unfoldable pub nonblank_from : ℕ → List (List ℕ) → List ℕ
unfolding trim
nonblank_from k [] = []
nonblank_from k (line ∷ lines) = unless_blank k (trim line) ++ nonblank_from (suc k) lines

-- a text's nonblank lines by their places from 1
abbrev pub nonblank_lines : List ℕ → List ℕ
nonblank_lines text = nonblank_from 1 (text_lines AfterCr text)

-- each line of an image with its text line
unfoldable pub with_text_lines : List Line → List ℕ → List MeasuredLine
with_text_lines [] places = []
with_text_lines (l ∷ ls) [] = []
with_text_lines (l ∷ ls) (k ∷ places) = record { line = l; origin = k } ∷ with_text_lines ls places

-- the lines of the image that a text would have, as they will stand
unfoldable pub measured_lines : Options → List ℕ → Answer (List MeasuredLine)
unfolding with_text_lines nonblank_from lines_at crunched_lines
measured_lines o text = map_done (λ ls. with_text_lines (lines_at o.load 2 ls) (nonblank_lines text)) (crunched_lines o text)

-- the entry at a place of a list, the first of which has the place n
unfoldable pub entry_from : {A : Type 0} → ℕ → ℕ → List A → Option A
entry_from place n [] = None
entry_from place n (x ∷ xs) = cond (eqb place n) (Some x) (entry_from place (n + 1) xs)

-- the line at a place from 1, if there is one
unfoldable pub line_measured : Options → ℕ → List ℕ → Answer (Option MeasuredLine)
unfolding entry_from measured_lines
line_measured o place text = map_done (entry_from place 1) (measured_lines o text)
