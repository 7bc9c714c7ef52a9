-- What holds of each entry of a list: of two lists together, of what a function makes of the entries, and at each place.
-- Assumes nothing.
use Prim.Native.Nat.{ℕ, zero, suc, ◌<◌}
use mathlib.Core.List.{List, [], ◌∷◌, ◌++◌, map}
use native.Mathlib.Omega.{arith}
use lib.ListN.{length, get_or}
use Rattle.base_steps.specs.Each.{Each}

module _ {A : Type 0} (P : A → Type 0) where
  pub each_append : (xs ys : List A) → Each P xs → Each P ys → Each P (xs ++ ys)
  each_append [] ys p q = q
  each_append (x ∷ xs) ys p q = (p.0, each_append xs ys p.1 q)

  pub each_map : {B : Type 0} (f : B → A) (xs : List B) → Each (λ x. P (f x)) xs → Each P (map f xs)
  each_map f [] p = tt
  each_map f (x ∷ xs) p = (p.0, each_map f xs p.1)

  pub each_at : (other : A) (xs : List A) → Each P xs → (i : ℕ) → i < length xs → P (get_or xs i other)
  each_at other [] p i h = absurd (omega arith)
  each_at other (x ∷ xs) p zero h = p.0
  each_at other (x ∷ xs) p (suc i) h = each_at other xs p.1 i (omega arith)
