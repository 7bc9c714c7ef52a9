-- The equations of `decimal`.
-- Assumes nothing.
use Prim.Native.Nat.{ℕ, suc, ◌+◌, ◌/◌, ◌%◌, ◌≤◌, ◌<◌}
use mathlib.Core.Path.{◌≡◌, refl, ap, ◌∙◌}
use mathlib.Core.Bool.{Bool, true, false}
use mathlib.Core.List.{List, [], ◌∷◌, ◌++◌}
use native.Mathlib.Omega.{arith}
use lib.Dec.{ltb}
use borrow.Author.Tests.{lt-ltb, le-ltb, ltb-false}
use Rattle.base_steps.proofs.Nearer.{Nearer, again_on}
use Rattle.base_steps.specs.Decimal.{digits_by, digits_on, decimal}

nearer : Nearer (λ (n : ℕ). n) digits_on
nearer n f g alike = go (ltb n 10) refl
  where
    go : (b : Bool) → ltb n 10 ≡ b → digits_by b f n ≡ digits_by b g n
    go true e = refl
    go false e = ap (λ (ds : List ℕ). ds ++ ((48 + n % 10) ∷ [])) (alike (n / 10) (omega (arith, ltb-false n 10 e)))

decimal_on : (n : ℕ) → decimal n ≡ digits_on decimal n
unfolding decimal
decimal_on n = again_on nearer [] suc (λ m. omega arith) n

pub decimal_digit : (n : ℕ) → n < 10 → decimal n ≡ (48 + n) ∷ []
decimal_digit n h = decimal_on n ∙ ap (λ (b : Bool). digits_by b decimal n) (lt-ltb n 10 h)

pub decimal_more : (n : ℕ) → 10 ≤ n → decimal n ≡ decimal (n / 10) ++ ((48 + n % 10) ∷ [])
decimal_more n h = decimal_on n ∙ ap (λ (b : Bool). digits_by b decimal n) (le-ltb n 10 h)
