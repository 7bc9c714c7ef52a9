-- For helpers of the calls alone: a text that was checked and measured, and the bound of an image.
-- Assumes nothing.
use Rattle.std.specs.Prelude.{ℕ, ◌≤◌, ◌≡◌, Bool, true, false, List, length, Result}
use Rattle.base_refusals.specs.declared.Refusal.{Refusal}
use Rattle.base_refusals.specs.Answer.{Answer, done, refused, answered}
use Rattle.base_lent.specs.Lent.{room_for}
use Rattle.crunch_rules.specs.Crunched.{crunched}
use Rattle.crunch_rules.specs.Measured.{line_measured}
use Rattle.crunch_rules.specs.declared.Options.{Options}
use Rattle.crunch_measure.specs.MeasureHelpers.{room_of, line_of}
use Rattle.crunch_measure.specs.declared.Pass.{Pass}

-- a text that was checked and measured: the room for its image, and the line at a place
pub record MeasuredAs (o : Options) (place : ℕ) (text : List ℕ) (r : Result Pass Refusal) : Type 0 where
  pub sized : answered (room_of r) ≡ room_for (crunched o text)
  pub placed : answered (line_of r) ≡ line_measured o place text

-- an image that fits in so much room, where that is said of it
abbrev pub FitsIf : Bool → ℕ → Answer (List ℕ) → Type 0
FitsIf false room a = Unit {0}
FitsIf true room (done bytes) = length bytes ≤ room
FitsIf true room (refused n) = ⊥
