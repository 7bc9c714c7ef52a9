-- What is known of a length that is not bad.
-- Assumes nothing.
use Prim.Native.Nat.{ℕ, ◌≤◌}
use mathlib.Core.Path.{◌≡◌, refl}
use mathlib.Core.Bool.{Bool, true, false, ◌||◌}
use native.Mathlib.Omega.{arith}
use lib.Dec.{ltb}
use borrow.Author.Tests.{ltb-false}
use Rattle.image_limits.specs.declared.Limits.{Limits}
use Rattle.image_limits.specs.Limits.{is_bad_length}

pub good_length : (m : Limits) (size : ℕ) → is_bad_length m size ≡ false → (1 ≤ size) × (size ≤ m.longest)
good_length m size e = go (ltb size 1) refl (ltb m.longest size) refl e
  where
    go : (a : Bool) → ltb size 1 ≡ a → (b : Bool) → ltb m.longest size ≡ b → (a || b) ≡ false → (1 ≤ size) × (size ≤ m.longest)
    go false p false q e = (ltb-false size 1 p, ltb-false m.longest size q)
    go false p true q e = let z : ◌≡◌ {A = ℕ} 0 1 = cc in absurd (omega arith)
    go true p b q e = let z : ◌≡◌ {A = ℕ} 0 1 = cc in absurd (omega arith)
