-- For helpers of the measuring pass alone: what it answers, for any words.
-- Assumes nothing.
use Rattle.std.specs.Prelude.{ℕ, ◌+◌, ◌-◌, ◌≤◌, ◌≡◌, Bool, List}
use Rattle.std.specs.Prelude.{Option, Result, Ok, Err}
use Rattle.base_refusals.specs.declared.Refusal.{Refusal}
use Rattle.base_refusals.specs.Answer.{Answer, map_done, answered}
use Rattle.base_lent.specs.Lent.{room_for}
use Rattle.text_lines.specs.declared.LineRule.TheVariants.{AfterCr}
use Rattle.text_lines.specs.TextLines.{text_lines}
use Rattle.body_rules.specs.Lexicon.{Lexicon}
use Rattle.image_readers.specs.declared.Line.{Line}
use Rattle.image_layout.specs.Reads.{lines_at}
use Rattle.crunch_rules.specs.Crunched.{crunch_lines}
use Rattle.crunch_rules.specs.Measured.{nonblank_lines, with_text_lines, entry_from}
use Rattle.crunch_rules.specs.declared.MeasuredLine.{MeasuredLine}
use Rattle.crunch_measure.specs.declared.Pass.{Pass}
use Rattle.crunch_rules.specs.PassesHelpers.{text_image}

-- the line at a place of it
unfoldable pub text_placed : Bool → Lexicon → ℕ → ℕ → List ℕ → Answer (Option MeasuredLine)
text_placed profile words load place text =
    map_done (λ ls. entry_from place 1 (with_text_lines (lines_at load 2 ls) (nonblank_lines text))) (crunch_lines profile words 1 0 load (text_lines AfterCr text))

-- the room of a text that was measured, or its refusal
abbrev pub room_of : Result Pass Refusal → Result ℕ Refusal
room_of (Ok p) = Ok p.room
room_of (Err r) = Err r

-- the line at the place, or the refusal
abbrev pub line_of : Result Pass Refusal → Result (Option MeasuredLine) Refusal
line_of (Ok p) = Ok p.line
line_of (Err r) = Err r

-- what the measuring pass answers of such a text
pub record PassedAs (profile : Bool) (words : Lexicon) (load place : ℕ) (text : List ℕ) (r : Result Pass Refusal) : Type 0 where
  pub sized : answered (room_of r) ≡ room_for (text_image profile words load text)
  pub placed : answered (line_of r) ≡ text_placed profile words load place text

-- a line from one address to another, in an image at a load address
pub record Span (load address behind : ℕ) : Type 0 where
  pub low : load ≤ address
  pub some : address + 5 ≤ behind
  pub high : behind ≤ 0xFFFF

abbrev pub line_between : ℕ → ℕ → ℕ → ℕ → Line
line_between load address number behind =
    record {
      address = address;
      link = behind;
      number = number;
      from = address - load + 6;
      to = behind - load + 1;
      next = behind - load + 2;
    }
