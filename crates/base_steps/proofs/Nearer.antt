-- Steps that come nearer to an end: the equation of `again` without its count, and the induction that goes with it. μ says how far a
-- place is from the end.
-- Assumes nothing.
use Prim.Native.Nat.{ℕ, zero, suc, ◌<◌}
use mathlib.Core.Path.{◌≡◌, ◌∙◌}
use native.Mathlib.Omega.{arith}
use Rattle.base_steps.specs.Again.{again}

-- what a step answers at x depends on what is answered at places nearer to the end alone
abbrev pub Nearer : {S R : Type 0} → (S → ℕ) → ((S → R) → S → R) → Type 0
Nearer {S} {R} μ step = (x : S) (f g : S → R) → ((y : S) → μ y < μ x → f y ≡ g y) → step f x ≡ step g x

module _ {S R : Type 0} {μ : S → ℕ} {step : (S → R) → S → R} (near : Nearer μ step) (r : R) where
  -- any two counts above the distance give the same
  pub again_enough : (k j : ℕ) (x : S) → μ x < k → μ x < j → again r step k x ≡ again r step j x
  unfolding again
  again_enough zero j x a b = absurd (omega arith)
  again_enough (suc k) zero x a b = absurd (omega arith)
  again_enough (suc k) (suc j) x a b =
      near x (again r step k) (again r step j) (λ y h. again_enough k j y (omega arith) (omega arith))

  -- a step, and then the same again: with one count for all places, or with one for each
  pub again_once : (k : ℕ) (x : S) → μ x < k → again r step k x ≡ step (again r step k) x
  unfolding again
  again_once zero x h = absurd (omega arith)
  again_once (suc k) x h =
      near x (again r step k) (again r step (suc k)) (λ y a. again_enough k (suc k) y (omega arith) (omega arith))

  pub again_on : (k : S → ℕ) → ((y : S) → μ y < k y) → (x : S) → again r step (k x) x ≡ step (λ y. again r step (k y) y) x
  again_on k above x =
      again_once (k x) x (above x)
      ∙ near x (again r step (k x)) (λ y. again r step (k y) y) (λ y a. again_enough (k x) (k y) y (omega (arith, above x)) (above y))

-- what holds at a place whenever it holds at each nearer one, holds at every place
pub by_nearer : {S : Type 0} (μ : S → ℕ) (P : S → Type 0) → ((x : S) → ((y : S) → μ y < μ x → P y) → P x) → (x : S) → P x
by_nearer {S} μ P f x = go (suc (μ x)) x (omega arith)
  where
    go : (k : ℕ) (y : S) → μ y < k → P y
    go zero y h = absurd (omega arith)
    go (suc k) y h = f y (λ z a. go k z (omega arith))
