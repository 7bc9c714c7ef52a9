-- The search for the first 00, and the end of a body.
-- Assumes nothing.
use Prim.Native.Nat.{ℕ, suc, ◌+◌, ◌-◌, ◌≤◌}
use mathlib.Core.Path.{◌≡◌, refl, ap, ◌∙◌}
use mathlib.Core.Bool.{Bool, true, false, not, cond}
use mathlib.Core.List.{List, [], ◌∷◌}
use native.Mathlib.Omega.{arith}
use lib.ListN.{length, take, drop, length-drop}
use lib.Seq.{take_all}
use lib.Dec.{eqb}
use Rattle.std.specs.List.{prefix_len}
use Rattle.image_bytes.specs.ImageBytes.{before_zero, body_end}

-- the bytes in front that are not 00
pub zero_counted : (s : List ℕ) → prefix_len (λ b. not (eqb b 0)) s ≡ before_zero s
unfolding before_zero
zero_counted [] = refl
zero_counted (b ∷ s) = go (eqb b 0) (zero_counted s)
  where
    go : (r : Bool) → prefix_len (λ b. not (eqb b 0)) s ≡ before_zero s → cond (not r) (1 + prefix_len (λ b. not (eqb b 0)) s) 0 ≡ elim r [ true ↦ 0 | false ↦ suc (before_zero s) ]
    go true e = refl
    go false e = omega (arith, e)

-- the first 00 stands within the bytes, or at their end where there is none
before_within : (s : List ℕ) → before_zero s ≤ length s
unfolding before_zero
before_within [] = omega arith
before_within (b ∷ s) = go (eqb b 0) (before_within s)
  where
    go : (r : Bool) → before_zero s ≤ length s → elim r [ true ↦ 0 | false ↦ suc (before_zero s) ] ≤ suc (length s)
    go true k = omega arith
    go false k = omega arith

-- a body that starts within the image ends within it
pub body_end_within : (s : List ℕ) (p : ℕ) → p + 4 ≤ length s → body_end s p ≤ length s
body_end_within s p h = omega (arith, before_within (drop (p + 4) s), length-drop (p + 4) s)

-- b bytes stand before the 00 in the part from p + 4 on
module _ (s : List ℕ) (p : ℕ) (h : p + 4 ≤ length s) {b : ℕ} (q : b ≡ before_zero (take (length s - (p + 4)) (drop (p + 4) s))) where
  pub body_end_at : p + 4 + b ≡ body_end s p
  body_end_at = ap (λ (x : ℕ). p + 4 + x) (q ∙ ap before_zero (take_all (length s - (p + 4)) (drop (p + 4) s) (omega (arith, length-drop (p + 4) s))))

  pub body_at_within : p + 4 + b ≤ length s
  body_at_within = omega (arith, body_end_at, body_end_within s p h)
