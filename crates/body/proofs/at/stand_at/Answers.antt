-- `body::at::stand_at` meets its contract.
-- Assumes nothing.
use Prim.Native.Nat.{ℕ, ◌+◌}
use mathlib.Core.Path.{◌≡◌, subst}
use mathlib.Core.List.{List}
use native.Mathlib.Omega.{arith}
use Rattle.body_steps.specs.BraceHelpers.{Spans}
use Rattle.body_steps.specs.declared.string.Span.{Span}
use Rattle.body_steps.proofs.Braces.{spans_on}
use Rattle.body.proofs.at.stand_at.Goals as goal

from_start : {t : List ℕ} {w : Span} (at : ℕ) → Spans t 0 w → Spans t at w
from_start {t} {w} at f = let e : 0 + at ≡ at = omega arith in subst (λ (n : ℕ). Spans t n w) e (spans_on at f)

pub returns : goal.returns
returns c = search from_start
