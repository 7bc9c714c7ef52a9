-- A choice by a test.
-- Assumes nothing.
use mathlib.Core.Path.{◌≡◌, refl}
use mathlib.Core.Bool.{Bool, true, false}

module _ {A : Type 0} {r : Bool} (x y : A) where
  pub taken : r ≡ true → elim r [ true ↦ x | false ↦ y ] ≡ x
  taken t = rw t

  pub left : r ≡ false → elim r [ true ↦ x | false ↦ y ] ≡ y
  left t = rw t

-- what holds of either side, under the test, holds of the choice
pub either : {A : Type 0} (P : A → Type 0) (r : Bool) (x y : A) → (r ≡ true → P x) → (r ≡ false → P y) → P (elim r [ true ↦ x | false ↦ y ])
either P true x y f g = f refl
either P false x y f g = g refl
