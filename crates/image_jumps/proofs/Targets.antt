-- The targets of a list, case by case; and that cutting a value before its other digits are read changes no value that is cut.
-- Assumes nothing.
use Prim.Native.Nat.{ℕ, ◌-◌}
use mathlib.Core.Path.{◌≡◌, refl, sym, ap, ◌∙◌}
use mathlib.Core.Bool.{Bool, true, false}
use mathlib.Core.List.{List, [], ◌∷◌, map}
use native.Mathlib.Omega.{arith}
use lib.Dec.{eqb}
use borrow.Author.Tests.{eq-eqb, ne_eqb, eqb-true, eqb-false}
use Rattle.base_ascii.specs.Bytes.{is_digit}
use Rattle.image_jumps.specs.Jumps.{with_digit, jump_told, targets_from, low}
use Rattle.image_jumps.specs.JumpHelpers.{low_part}
use Rattle.std.specs.Prelude.{Option, Some, None}

pub targets_none : (p : Option ℕ) → targets_from p [] ≡ jump_told p []
unfolding targets_from
targets_none p = refl

module _ (p : Option ℕ) (b : ℕ) (s : List ℕ) where
  pub targets_digit : is_digit b ≡ true → targets_from p (b ∷ s) ≡ targets_from (with_digit p (b - 48)) s
  unfolding targets_from
  targets_digit e = rw (targets_from, e)

  module _ (e : is_digit b ≡ false) where
    pub targets_space : b ≡ 0x20 → targets_from p (b ∷ s) ≡ targets_from p s
    unfolding targets_from
    targets_space f = rw (targets_from, e, eq-eqb b 0x20 f)

    pub targets_comma : b ≡ 0x2C → targets_from p (b ∷ s) ≡ jump_told p (targets_from None s)
    unfolding targets_from
    targets_comma f = let n : b ≡ 0x20 → ⊥ = λ q. omega arith in rw (targets_from, e, ne_eqb b 0x20 n, eq-eqb b 0x2C f)

    pub targets_other : (b ≡ 0x20 → ⊥) → (b ≡ 0x2C → ⊥) → targets_from p (b ∷ s) ≡ jump_told p []
    unfolding targets_from
    targets_other f g = rw (targets_from, e, ne_eqb b 0x20 f, ne_eqb b 0x2C g)

-- ---- cut values

low_digit : (p : Option ℕ) (d : ℕ) → low_part (with_digit (low_part p) d) ≡ low_part (with_digit p d)
low_digit None d = refl
low_digit (Some v) d = ap Some (omega arith)

low_told : (p : Option ℕ) (ts us : List ℕ) → map low ts ≡ map low us → map low (jump_told (low_part p) ts) ≡ map low (jump_told p us)
low_told None ts us e = e
low_told (Some v) ts us e = ap (λ (n : ℕ). n ∷ map low ts) (omega arith) ∙ ap (λ (x : List ℕ). low v ∷ x) e

pub low_early : (s : List ℕ) (p : Option ℕ) → map low (targets_from (low_part p) s) ≡ map low (targets_from p s)
low_early [] p = rw (targets_none p, targets_none (low_part p)) (low_told p [] [] refl)
low_early (b ∷ s) p = digit (is_digit b) refl (low_early s)
  where
    comma : is_digit b ≡ false → (b ≡ 0x20 → ⊥) → (t : Bool) → eqb b 0x2C ≡ t → map low (targets_from (low_part p) (b ∷ s)) ≡ map low (targets_from p (b ∷ s))
    comma e f true g =
        let h : b ≡ 0x2C = eqb-true _ _ g in
        rw (targets_comma p b s e h, targets_comma (low_part p) b s e h) (low_told p (targets_from None s) (targets_from None s) refl)
    comma e f false g =
        let h = eqb-false _ _ g in
        rw (targets_other p b s e f h, targets_other (low_part p) b s e f h) (low_told p [] [] refl)

    space : is_digit b ≡ false → ((q : Option ℕ) → map low (targets_from (low_part q) s) ≡ map low (targets_from q s)) → (t : Bool) → eqb b 0x20 ≡ t
        → map low (targets_from (low_part p) (b ∷ s)) ≡ map low (targets_from p (b ∷ s))
    space e ih true f = let h : b ≡ 0x20 = eqb-true _ _ f in rw (targets_space p b s e h, targets_space (low_part p) b s e h) (ih p)
    space e ih false f = comma e (eqb-false _ _ f) (eqb b 0x2C) refl

    digit : (t : Bool) → is_digit b ≡ t → ((q : Option ℕ) → map low (targets_from (low_part q) s) ≡ map low (targets_from q s))
        → map low (targets_from (low_part p) (b ∷ s)) ≡ map low (targets_from p (b ∷ s))
    digit true e ih =
        rw (targets_digit p b s e, targets_digit (low_part p) b s e)
        (sym (ih (with_digit (low_part p) (b - 48))) ∙ ap (λ (q : Option ℕ). map low (targets_from q s)) (low_digit p (b - 48)) ∙ ih (with_digit p (b - 48)))
    digit false e ih = space e ih (eqb b 0x20) refl
