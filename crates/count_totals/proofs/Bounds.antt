-- What numbers that are totals keep to, and the tests for it.
-- Assumes nothing.
use Prim.Native.Nat.{ℕ, zero, suc, ◌+◌, ◌*◌, ◌/◌, ◌≤◌, ◌<◌, min}
use mathlib.Core.Path.{◌≡◌, refl, sym, ap, ◌∙◌}
use mathlib.Core.Bool.{Bool, true, false, cond, ◌&&◌}
use mathlib.Core.Logic.{◌⊎◌, inl, inr}
use mathlib.Core.List.{List}
use native.Mathlib.Omega.{arith}
use native.Mathlib.Nat.{eq-or-lt_of_le}
use lib.Dec.{eqb, leb, ltb}
use lib.ListN.{length, get_or, get_or-eq_default}
use mir.Syntax.{w64}
use mir.Val.{Fits}
use borrow.Author.Tests.{eq-eqb, ne_eqb, le-leb, lt-leb, eqb-true, leb-true, ltb-true, ltb-false}
use Rattle.count_totals.specs.TokenTotals.{sum_below, tokens_sum, images_taken, images_refused, is_totals, tokens_counted, thousandths, share_of}
use Rattle.count_totals.specs.TotalsHelpers.{Small}
use Rattle.count_totals.proofs.Sums.{sum_up, sum_next}

low_or_not : (a b : ℕ) → (a < b) ⊎ (b ≤ a)
low_or_not a b = go (ltb a b) refl
  where
    go : (t : Bool) → ltb a b ≡ t → (a < b) ⊎ (b ≤ a)
    go true e = inl (ltb-true a b e)
    go false e = inr (ltb-false a b e)

pub record AreTotals (t : List ℕ) : Type 0 where
  pub long : length t ≡ 206
  pub few : images_taken t ≤ 1000
  pub some : images_refused t ≤ images_taken t
  pub bounded : tokens_sum t ≤ 1048576 * images_taken t

and_parts : (a b : Bool) → (a && b) ≡ true → (a ≡ true) × (b ≡ true)
and_parts true true e = (refl, refl)
and_parts true false e = (refl, e)
and_parts false b e = let z : ◌≡◌ {A = ℕ} 0 1 = ap (λ (x : Bool). cond x 1 0) e in absurd (omega arith)

pub are_totals : {t : List ℕ} → is_totals t ≡ true → AreTotals t
unfolding is_totals
are_totals {t} e =
    let p = and_parts (eqb (length t) 206) _ e in
    let q = and_parts (leb (images_taken t) 1000) _ p.1 in
    let r = and_parts (leb (images_refused t) (images_taken t)) _ q.1 in
    record {
      long = eqb-true (length t) 206 p.0;
      few = leb-true (images_taken t) 1000 q.0;
      some = leb-true (images_refused t) (images_taken t) r.0;
      bounded = leb-true (tokens_sum t) (1048576 * images_taken t) r.1;
    }

pub totals_true : {t : List ℕ} → AreTotals t → is_totals t ≡ true
unfolding is_totals
totals_true {t} a =
    rw (eq-eqb (length t) 206 a.long, le-leb (images_taken t) 1000 a.few, le-leb (images_refused t) (images_taken t) a.some)
    (le-leb (tokens_sum t) (1048576 * images_taken t) a.bounded)

-- ---- the tests, one after the other

module _ (t : List ℕ) where
  pub not_long : (length t ≡ 206 → ⊥) → false ≡ is_totals t
  unfolding is_totals
  not_long n = rw (ne_eqb (length t) 206 n)

  module _ (long : length t ≡ 206) where
    pub too_many : 1000 < get_or t 0xCC 0 → false ≡ is_totals t
    unfolding is_totals
    too_many h = rw (eq-eqb (length t) 206 long, lt-leb (images_taken t) 1000 h)

    module _ (few : get_or t 0xCC 0 ≤ 1000) where
      pub more_refused : get_or t 0xCC 0 < get_or t 0xCD 0 → false ≡ is_totals t
      unfolding is_totals
      more_refused h = rw (eq-eqb (length t) 206 long, le-leb (images_taken t) 1000 few, lt-leb (images_refused t) (images_taken t) h)

      pub sum_decides : {s : ℕ} → get_or t 0xCD 0 ≤ get_or t 0xCC 0 → s ≡ min (tokens_sum t) (1048576 * get_or t 0xCC 0 + 1)
          → leb s (1048576 * get_or t 0xCC 0) ≡ is_totals t
      unfolding is_totals
      sum_decides {s} h e =
          rw (eq-eqb (length t) 206 long, le-leb (images_taken t) 1000 few, le-leb (images_refused t) (images_taken t) h)
          (capped (tokens_sum t) (1048576 * get_or t 0xCC 0) s e)
        where
          capped : (a m n : ℕ) → n ≡ min a (m + 1) → leb n m ≡ leb a m
          capped a m n q = go (low_or_not m a)
            where
              go : (m < a) ⊎ (a ≤ m) → leb n m ≡ leb a m
              go (inl l) = let k : m < n = omega arith in lt-leb n m k ∙ sym (lt-leb a m l)
              go (inr l) = let k : n ≤ m = omega arith in le-leb n m k ∙ sym (le-leb a m l)

-- ---- no number is large

one_of : (n k : ℕ) (f : ℕ → ℕ) → k < n → f k ≤ sum_below n f
one_of n k f h = let up : k + 1 ≤ n = omega arith in omega (arith, sum_next k f, sum_up f up)

token_of : (t : List ℕ) (k : ℕ) → k < 0xCC → get_or t k 0 ≤ tokens_sum t
unfolding tokens_sum
token_of t k h = one_of 0xCC k (λ j. get_or t j 0) h

pub totals_small : {t : List ℕ} → AreTotals t → Small t
totals_small {t} a = record { long = a.long; each = λ k. at_place k (low_or_not k 0xCC) }
  where
    behind : (k : ℕ) → 0xCC ≤ k → (k ≡ 0xCC) ⊎ (0xCC < k) → (k < 206) ⊎ (206 ≤ k) → get_or t k 0 ≤ 1048576000
    behind k h (inl e) l = rw e (omega (arith, a.few))
    behind k h (inr l) (inl m) = let e : k ≡ 0xCD = omega arith in rw e (omega (arith, a.some, a.few))
    behind k h (inr l) (inr m) =
        let far : length t ≤ k = omega (arith, a.long) in
        omega (arith, get_or-eq_default t 0 far)

    at_place : (k : ℕ) → (k < 0xCC) ⊎ (0xCC ≤ k) → get_or t k 0 ≤ 1048576000
    at_place k (inl h) = omega (arith, token_of t k h, a.bounded, a.few)
    at_place k (inr h) = behind k h (flip (eq-or-lt_of_le h)) (low_or_not k 206)
      where
        flip : (0xCC ≡ k) ⊎ (0xCC < k) → (k ≡ 0xCC) ⊎ (0xCC < k)
        flip (inl e) = inl (sym e)
        flip (inr l) = inr l

-- ---- tokens and shares

module _ (t : List ℕ) {b : Bool} (e : b ≡ is_totals t) where
  pub known_totals : b ≡ true → AreTotals t
  known_totals is = are_totals (sym e ∙ is)

  pub known_long : b ≡ true → length t ≡ 206
  known_long is = (known_totals is).long

  pub all_tokens : {r : ℕ} → b ≡ true → r ≡ min (tokens_sum t) (1048576 * 1000 + 1) → r ≡ tokens_counted t
  unfolding tokens_counted
  all_tokens is m =
      let a = known_totals is in
      rw (sym e ∙ is) (omega (arith, a.bounded, a.few))

  pub no_tokens : b ≡ false → 0 ≡ tokens_counted t
  unfolding tokens_counted
  no_tokens is = rw (sym e ∙ is)

module _ (t : List ℕ) (k : ℕ) {n : ℕ} (e : n ≡ tokens_counted t) where
  pub some_tokens_lem : (n ≡ 0 → ⊥) → AreTotals t
  unfolding tokens_counted
  some_tokens_lem other = go (is_totals t) refl
    where
      go : (b : Bool) → is_totals t ≡ b → AreTotals t
      go true is = are_totals is
      go false is = absurd (other (e ∙ rw is))

  pub token_there : (n ≡ 0 → ⊥) → k < 0xCC → k < length t
  token_there other h = omega (arith, (some_tokens_lem other).long)

  pub share_fits : (n ≡ 0 → ⊥) → Fits w64 (1000 * get_or t k 0)
  share_fits other = record { fits = omega (arith, (totals_small (some_tokens_lem other)).each k) }

  pub share_nothing : n ≡ 0 → 0 ≡ share_of t k
  unfolding share_of
  share_nothing z = rw (sym e ∙ z) (go (leb 0xCC k))
    where
      go : (b : Bool) → ◌≡◌ {A = ℕ} 0 (cond b 0 0)
      go true = refl
      go false = refl

  pub share_none : 0xCC ≤ k → 0 ≡ share_of t k
  unfolding share_of
  share_none h = rw (le-leb 0xCC k h)

  pub share_some : k < 0xCC → (n ≡ 0 → ⊥) → 1000 * get_or t k 0 / n ≡ share_of t k
  unfolding share_of
  share_some h other = rw (lt-leb 0xCC k h, ← e) (go n other)
    where
      go : (s : ℕ) → (s ≡ 0 → ⊥) → 1000 * get_or t k 0 / s ≡ thousandths (get_or t k 0) s
      go zero o = absurd (o refl)
      go (suc s) o = refl
