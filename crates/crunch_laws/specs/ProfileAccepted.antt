-- What is known of the lines of a text that the machine profile accepts (document 02, No. 1).
-- Assumes nothing.
use Rattle.std.specs.Prelude.{ℕ, suc, ◌≤◌, ◌≡◌, List, [], ◌∷◌, length}
use Rattle.base_refusals.specs.Answer.{done}
use Rattle.image_limits.specs.Limits.{c64}
use Rattle.image_readers.specs.declared.Line.{Line}
use Rattle.image_readers.specs.Lines.{lines_of}
use Rattle.image_readers.specs.Links.{link_step}
use Rattle.image_readers.specs.NumberedBody.{NumberedBody}
use Rattle.image_readers.specs.Terminators.{terminator_step}
use Rattle.image_layout.specs.Reads.{NoZero}

-- "numbers at most 63999 .., no zero in any body, bodies of 1 to 250 bytes"
pub record FitsMachine (l : NumberedBody) : Type 0 where
  pub number : l.number ≤ c64.highest
  pub none : NoZero l.body
  pub some : 1 ≤ length l.body
  pub few : length l.body ≤ c64.longest

-- "strictly ascending": each line fits, and its number is at least this one, which is 0 at first and then the next above the number before
abbrev pub FitMachine : ℕ → List NumberedBody → Type 0
FitMachine least [] = Unit {0}
FitMachine least (l ∷ ls) = (least ≤ l.number) × FitsMachine l × FitMachine (suc l.number) ls

-- "both readers return the same lines"
pub record ReadAlike (s : List ℕ) : Type 0 where
  pub lines : List Line
  pub links : lines_of link_step s ≡ done lines
  pub terminators : lines_of terminator_step s ≡ done lines
