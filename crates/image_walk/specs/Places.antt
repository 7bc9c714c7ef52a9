-- Where a walk stands (document 01, "Reading and listing": "a listing walk keeps the image and its place together; it adds nothing to
-- the steps").
-- Assumes nothing.
use Rattle.std.specs.Prelude.{ℕ, List}
use Rattle.std.specs.Borrow.{Bor}
use Rattle.base_refusals.specs.Answer.{Answer, done, refused}
use Rattle.image_readers.specs.Lines.{Reader}
use Rattle.image_walk.specs.declared.Walk.{Walk}
use Rattle.std.specs.Prelude.{Option, Some, None}
use Rattle.image_readers.specs.declared.Line.{Line}

-- the walk over an image that stands at p
abbrev pub walk_at : Bor (List ℕ) → ℕ → Walk
walk_at image p = record { image = image; offset = p }

-- the offset behind the line that a step found at p, and p where it found none
abbrev pub behind_found : ℕ → Answer (Option Line) → ℕ
behind_found p (done (Some l)) = l.next
behind_found p (done None) = p
behind_found p (refused n) = p

abbrev pub behind : Reader → List ℕ → ℕ → ℕ
behind step s p = behind_found p (step s p)
