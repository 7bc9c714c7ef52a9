-- The answers of the calls over a disk are known from their numbers and values: two results that meet one promise are the same.
-- Assumes nothing.
use mathlib.Core.Path.{◌≡◌, sym, ap, ◌∙◌}
use mathlib.Core.List.{List}
use Prim.Native.Nat.{ℕ}
use Rattle.base_refusals.specs.Answer.{Answer, answered}
use Rattle.base_refusals.specs.declared.Refusal.{Refusal}
use Rattle.base_refusals.proofs.Tight.{answered_tight}
use Rattle.disk_rules.specs.Calls.{After, leaving}
use Rattle.disk_rules.specs.declared.Holding.{Holding}
use Rattle.std.specs.Prelude.{Result}

-- `format` and `scratch`: the answer, and the disk that is left
pub changed_tight : (l : After) (r s : Result (Unit {0}) Refusal) (b c : List ℕ) → leaving r b ≡ l → leaving s c ≡ l → (r ≡ s) × (b ≡ c)
changed_tight l r s b c p q =
    (answered_tight l.answer r s (ap (λ (x : After). x.answer) p) (ap (λ (x : After). x.answer) q), ap (λ (x : After). x.disk) (p ∙ sym q))

-- `check`
pub disk_check_tight : (a : Answer Holding) (r s : Result Holding Refusal) → answered r ≡ a → answered s ≡ a → r ≡ s
disk_check_tight = answered_tight
