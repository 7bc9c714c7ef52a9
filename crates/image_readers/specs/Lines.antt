-- The lines of an image, one after the other, by either reader (document 01, "Reading and listing": "one call checks the whole
-- image and returns the load address with the line count, or the refusal; a step at any offset answers the line there with the
-- next offset, the end, or the refusal there"). A reader is its step; all here is said once of any step.
--
-- Reading on from a line's next offset counts down a number that is large enough (`again`). `lines_line`, `lines_end` and
-- `lines_refused` (proofs/Equations.antt) are the equations a reader expects, and nothing after them looks at the count.
-- Assumes nothing.
use Rattle.std.specs.Prelude.{ℕ, suc, List, [], ◌∷◌, length}
use Rattle.base_steps.specs.Again.{again}
use Rattle.base_refusals.specs.Answer.{Answer, done, refused, map_done}
use Rattle.image_readers.specs.declared.Line.{Line}
use Rattle.image_readers.specs.declared.Overview.{Overview}
use Rattle.image_bytes.specs.ImageBytes.{low_first_at}
use Rattle.std.specs.Prelude.{Option, Some, None}

-- what a step answers, for an image and an offset
abbrev pub Reader : Type 0
Reader = List ℕ → ℕ → Answer (Option Line)

-- a line and what f reads from the next offset on, nothing at the end, or the refusal
abbrev pub onward : (ℕ → Answer (List Line)) → Answer (Option Line) → Answer (List Line)
onward f (done (Some l)) = map_done (λ ls. l ∷ ls) (f l.next)
onward f (done None) = done []
onward f (refused n) = refused n

-- the step at p, and what f reads from the next offset on
abbrev pub read_on : Reader → List ℕ → (ℕ → Answer (List Line)) → ℕ → Answer (List Line)
read_on step s f p = onward f (step s p)

-- the lines from p on: an image has fewer lines than bytes
unfoldable pub lines_from : Reader → List ℕ → ℕ → Answer (List Line)
unfolding again
lines_from step s p = again (done []) (read_on step s) (suc (length s)) p

-- the lines of an image: the first stands behind the load address
abbrev pub lines_of : Reader → List ℕ → Answer (List Line)
lines_of step s = lines_from step s 2

abbrev pub overview_of : {A : Type 0} → List ℕ → List A → Overview
overview_of s ls = record { load = low_first_at s 0; lines = length ls }

unfoldable pub overview : Reader → List ℕ → Answer Overview
unfolding lines_from
overview step s = map_done (overview_of s) (lines_of step s)
