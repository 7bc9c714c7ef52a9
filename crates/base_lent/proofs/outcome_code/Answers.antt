-- `base_lent::outcome_code` meets its contract.
-- Assumes nothing.
use mathlib.Core.Path.{◌≡◌, ap, sym, ◌∙◌}
use Rattle.base_refusals.specs.Code.{length_code}
use Rattle.base_refusals.specs.declared.Code.{Code}
use Rattle.base_lent.proofs.outcome_code.Goals as goal
use Rattle.std.specs.Prelude.{ℕ, Result}
use Rattle.base_refusals.specs.declared.Refusal.{Refusal}
use Rattle.base_refusals.specs.Answer.{answered}

-- what holds of the case that an outcome is, holds of the outcome
by-case : {r x : (Result ℕ Refusal)} {k : Code} → k ≡ length_code (answered x) → r ≡ x → k ≡ length_code (answered r)
by-case p e = p ∙ ap (λ (y : Result ℕ Refusal). length_code (answered y)) (sym e)

pub returns-in-Ok : goal.returns-in-Ok
returns-in-Ok c = by-case c.with_one.ensures c.in-Ok.is

pub returns-in-Err : goal.returns-in-Err
returns-in-Err c = by-case c.refusal_code.ensures c.in-Err.is
