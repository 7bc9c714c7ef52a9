-- What the contracts of the single faults say.
-- Assumes nothing.
use Rattle.std.specs.Prelude.{ℕ, ◌≡◌, Bool, List, [], ◌∷◌}
use Rattle.base_refusals.specs.Answer.{done}
use Rattle.image_readers.specs.declared.Line.{Line}
use Rattle.image_readers.specs.Links.{link_step}
use Rattle.image_jumps.specs.declared.Cursor.{Cursor}
use Rattle.image_jumps.specs.declared.Jump.{Jump}
use Rattle.image_jumps.specs.JumpHelpers.{left_of}
use Rattle.image_faults.specs.declared.Fault.{Fault}
use Rattle.image_faults.specs.Faults.{unmet}
use Rattle.std.specs.Prelude.{Option, Some, None}

abbrev pub told_fault : Option Fault → List Fault
told_fault (Some f) = f ∷ []
told_fault None = []

-- the line at an offset
abbrev pub LineIs : List ℕ → ℕ → Line → Type 0
LineIs s p l = link_step s p ≡ done (Some l)

-- the next target that is not met, and what is left behind it
abbrev pub UnmetIs : (ℕ → Bool) → List ℕ → Cursor → Option Jump → Type 0
UnmetIs has body c (Some j) = unmet has (left_of body c) ≡ j.target ∷ unmet has (left_of body j.cursor)
UnmetIs has body c None = unmet has (left_of body c) ≡ []
