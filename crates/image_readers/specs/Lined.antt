-- The lines of an image before a fault, and what stands behind them (document 02, No. 4: "the lines before the fault").
-- Assumes nothing.
use Rattle.std.specs.Prelude.{ℕ, suc, List, [], ◌∷◌, length}
use Rattle.base_steps.specs.Again.{again}
use Rattle.base_refusals.specs.Numbers.{Numbered}
use Rattle.base_refusals.specs.Answer.{Answer, done, refused}
use Rattle.image_readers.specs.declared.Line.{Line}
use Rattle.image_readers.specs.Lines.{Reader}
use Rattle.std.specs.Prelude.{Option, Some, None}

-- what stands behind the lines that are read: the end, or a fault
pub data Ending : Type 0 where
  ended : Ending
  faulted : Numbered → Ending

-- lines, and what stands behind them
pub record Lined : Type 0 where
  pub lines : List Line
  pub ending : Ending

-- the step at p, and what f reads from the next offset on
abbrev pub lined_by : (ℕ → Lined) → Answer (Option Line) → Lined
lined_by f (done (Some l)) = record { lines = l ∷ (f l.next).lines; ending = (f l.next).ending }
lined_by f (done None) = record { lines = []; ending = ended }
lined_by f (refused n) = record { lines = []; ending = faulted n }

abbrev pub lined_on : Reader → List ℕ → (ℕ → Lined) → ℕ → Lined
lined_on step s f p = lined_by f (step s p)

-- the lines from p on before a fault, if there is one, and what stands behind them
unfoldable pub lined_from : Reader → List ℕ → ℕ → Lined
unfolding again
lined_from step s p = again (record { lines = []; ending = ended }) (lined_on step s) (suc (length s)) p
