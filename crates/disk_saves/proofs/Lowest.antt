-- The lowest sector outside a directory's.
-- Assumes nothing.
use Prim.Native.Nat.{ℕ, suc, ◌+◌, ◌-◌, ◌≤◌, ◌<◌}
use mathlib.Core.Path.{◌≡◌, refl, sym, ap, ap₂, ◌∙◌}
use mathlib.Core.Bool.{Bool, true, false, not, cond, ◌||◌}
use mathlib.Core.List.{List, [], ◌∷◌}
use lib.Dec.{eqb}
use native.Mathlib.Omega.{arith}
use borrow.Author.Tests.{eq-eqb, ne_eqb, eqb-true, eqb-false}
use Rattle.std.specs.Prelude.{Some, None}
use Rattle.std.specs.List.{list_any, slice_get}
use Rattle.base_steps.specs.Each.{Each}
use Rattle.disk_rules.specs.Lists.{some, those, is_in, numbers_from}
use Rattle.disk_rules.specs.Calls.{outside}
use Rattle.disk_check.proofs.Looking.{each_those, numbers_each}

eqb_turned : (a b : ℕ) → eqb a b ≡ eqb b a
eqb_turned a b = go (eqb a b) refl where
  go : (q : Bool) → eqb a b ≡ q → q ≡ eqb b a
  go true e = sym (eq-eqb b a (sym (eqb-true a b e)))
  go false e = sym (ne_eqb b a (λ f. eqb-false a b e (sym f)))

-- std's search of a list for a number is the rule's
pub any_standing : (l : List ℕ) (n : ℕ) → list_any (λ m. eqb m n) l ≡ is_in l n
unfolding some
any_standing [] n = refl
any_standing (m ∷ l) n = ap₂ (λ (a b : Bool). a || b) (eqb_turned m n) (any_standing l n)

-- ---- the first of 358 to 375 that does not stand in a list: the first of those that are left

pub record Lowest (l : List ℕ) (n : ℕ) : Type 0 where
  pub within : n ≤ 376
  pub gives : slice_get (those (λ m. not (is_in l m)) (numbers_from n (376 - n))) 0 ≡ slice_get (outside l) 0

pub low_start : (l : List ℕ) → Lowest l 358
low_start l = record { within = omega arith; gives = refl }

module _ {l : List ℕ} {n : ℕ} (k : Lowest l n) where
  -- those behind n
  behind : List ℕ
  behind = those (λ m. not (is_in l m)) (numbers_from (n + 1) (376 - (n + 1)))

  onward : n < 376 → slice_get (cond (not (is_in l n)) (n ∷ behind) behind) 0 ≡ slice_get (outside l) 0
  unfolding those numbers_from behind
  onward h = let e : 376 - n ≡ suc (376 - (n + 1)) = omega arith in rw e at k.gives

  pub low_found : {r : Bool} → n < 376 → r ≡ false → r ≡ list_any (λ m. eqb m n) l → Some n ≡ slice_get (outside l) 0
  low_found {r} h e f = let g : is_in l n ≡ false = sym (f ∙ any_standing l n) ∙ e in rw g at (onward h)

  pub low_turn : {r : Bool} → n < 376 → r ≡ true → r ≡ list_any (λ m. eqb m n) l → Lowest l (n + 1)
  unfolding behind
  low_turn {r} h e f =
      let g : is_in l n ≡ true = sym (f ∙ any_standing l n) ∙ e in record { within = omega arith; gives = rw g at (onward h) }

  pub low_end : 376 ≤ n → None ≡ slice_get (outside l) 0
  unfolding those numbers_from
  low_end h = let e : 376 - n ≡ 0 = omega arith in rw e at k.gives

-- it is on track 18
pub lowest_below : (l : List ℕ) {n : ℕ} → Some n ≡ slice_get (outside l) 0 → n < 683
lowest_below l {n} e =
    go (outside l) e (each_those (λ k. k < 683) (λ k. not (is_in l k)) (numbers_from 358 18) (numbers_each (λ k. k < 683) 358 18 (λ k a b. omega arith))) where
      go : (out : List ℕ) → Some n ≡ slice_get out 0 → Each (λ k. k < 683) out → n < 683
      go [] f g = absurd (cc)
      go (m ∷ out) f g = let z : n ≡ m = cc in omega (arith, g.0)
