-- Two results that meet one promise are the same, and so are the buffers that they leave.
-- Assumes nothing.
use Prim.Native.Nat.{ℕ}
use mathlib.Core.Path.{◌≡◌, sym, ap, ◌∙◌}
use mathlib.Core.List.{List}
use Rattle.base_refusals.proofs.Tight.{answered_tight}
use Rattle.base_lent.specs.Lent.{Lent, left}
use Rattle.std.specs.Prelude.{Result}
use Rattle.base_refusals.specs.declared.Refusal.{Refusal}

-- two results that meet one promise are the same, and so are the buffers that they leave
pub lent_tight : (l : Lent) (r s : Result ℕ Refusal) (b c : List ℕ) → left r b ≡ l → left s c ≡ l → (r ≡ s) × (b ≡ c)
lent_tight l r s b c p q =
    (answered_tight l.answer r s (ap (λ (x : Lent). x.answer) p) (ap (λ (x : Lent). x.answer) q), ap (λ (x : Lent). x.buffer) (p ∙ sym q))
