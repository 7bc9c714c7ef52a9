-- Steps taken one after the other, each at the offset that the one before gave (document 01, "Reading and listing": "a step at any
-- offset answers the line there with the next offset").
-- Assumes nothing.
use Rattle.std.specs.Prelude.{ℕ, ◌≡◌, List, [], ◌∷◌}
use Rattle.base_refusals.specs.Answer.{Answer, done, refused}
use Rattle.image_readers.specs.declared.Line.{Line}
use Rattle.image_readers.specs.Lines.{Reader}
use Rattle.std.specs.Prelude.{Option, Some, None}

-- from p on these lines are found one after the other, and q is the offset behind the last
pub data Chain (step : ℕ → Answer (Option Line)) : ℕ → List Line → ℕ → Type 0 where
  here : {p : ℕ} → Chain step p [] p
  on : {p q : ℕ} {l : Line} {ls : List Line} → step p ≡ done (Some l) → Chain step l.next ls q → Chain step p (l ∷ ls) q

-- the steps from p on lead to an answer: they find just these lines and then the end, or some lines and then the refusal
abbrev pub Leads : Reader → List ℕ → ℕ → Answer (List Line) → Type 0
Leads step s p (done ls) = (q : ℕ) × Chain (step s) p ls q × step s q ≡ done None
Leads step s p (refused n) = (ls : List Line) × (q : ℕ) × Chain (step s) p ls q × step s q ≡ refused n
