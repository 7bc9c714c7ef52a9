-- The digits of a number, stored from the last one on.
-- Assumes nothing.
use Prim.Native.Nat.{ℕ, zero, suc, ◌+◌, ◌-◌, ◌*◌, ◌/◌, ◌%◌, ◌≤◌, ◌<◌}
use mathlib.Core.Path.{◌≡◌, refl, sym, ap, ◌∙◌, subst}
use mathlib.Core.Bool.{Bool, true, false}
use mathlib.Core.List.{List, [], ◌∷◌, ◌++◌, append_assoc, append-nil}
use native.Mathlib.Omega.{arith}
use native.Mathlib.Nat.{mod-eq_of_lt, not-suc-le-zero, le_of_suc-le-suc}
use lib.Dec.{ltb}
use lib.ListN.{length, take, drop, set, length-set, length-append, length-drop, drop_of_length-le}
use borrow.Author.Tests.{ltb-true, ltb-false}
use lib.Seq.{take_all}
use mir.Syntax.{w64}
use mir.Val.{Fits}
use Rattle.base_steps.specs.Decimal.{decimal}
use Rattle.base_steps.proofs.Digits.{decimal_digit, decimal_more}
use Rattle.say_put.specs.Clipped.{Clipped}
use Rattle.say_put.specs.SpeltHelpers.{Spelt}
use Rattle.say_put.proofs.Clipping.{clip_as}

-- ten times itself so often: a number below it has no more digits than that
pub tens : ℕ → ℕ
tens zero = 1
tens (suc k) = 10 * tens k

-- the digits behind place i are stored, those of rest are owed
pub record Spelling (n : ℕ) (digits : List ℕ) (i rest : ℕ) : Type 0 where
  pub low : 1 ≤ i
  pub high : i ≤ 20
  pub sized : length digits ≡ 20
  pub few : rest < tens i
  pub gives : decimal rest ++ drop i digits ≡ decimal n

pub spelling_start : (n : ℕ) (digits : List ℕ) → 20 ≡ length digits → Fits w64 n → Spelling n digits 20 n
unfolding tens
spelling_start n digits e small = record {
  low = omega arith;
  high = omega arith;
  sized = sym e;
  few = omega (arith, small.fits);
  gives = rw (drop_of_length-le digits {i = 20} (omega arith)) (append-nil (decimal n));
}

-- a store at the front of what is left of a list
drop_set : (l : List ℕ) (i a : ℕ) → i < length l → drop i (set l i a) ≡ a ∷ drop (suc i) l
drop_set [] i a h = absurd (not-suc-le-zero h)
drop_set (x ∷ l) zero a h = refl
drop_set (x ∷ l) (suc i) a h = drop_set l i a (le_of_suc-le-suc h)

last_digit : {rest : ℕ} → rest < 10 → decimal rest ≡ (48 + rest % 10) ∷ []
last_digit {rest} h = decimal_digit rest h ∙ ap (λ (d : ℕ). (48 + d) ∷ []) (sym (mod-eq_of_lt h))

module _ {n : ℕ} {digits : List ℕ} {i rest : ℕ} (k : Spelling n digits i rest) where
  pub spelling_turn : 1 < i → 10 ≤ rest → {d : ℕ} → d ≡ 48 + rest % 10 → Spelling n (set digits (i - 1) d) (i - 1) (rest / 10)
  unfolding tens
  spelling_turn h big {d} e =
      let p : i ≡ suc (i - 1) = omega arith in
      let few : rest < tens (suc (i - 1)) = subst (λ (m : ℕ). rest < tens m) p k.few in
      record {
        low = omega arith;
        high = omega (arith, k.high);
        sized = length-set digits (i - 1) d ∙ k.sized;
        few = omega (arith, few);
        gives =
            rw (drop_set digits (i - 1) d (omega (arith, k.sized, k.high)), e, ← p)
            (sym (append_assoc (decimal (rest / 10)) ((48 + rest % 10) ∷ []) (drop i digits)) ∙ rw (← decimal_more rest big) k.gives);
      }

  pub spelling_last : 1 < i → rest < 10 → {d : ℕ} → d ≡ 48 + rest % 10 → Spelt (decimal n) (i - 1) (set digits (i - 1) d)
  spelling_last h small {d} e =
      let p : i ≡ suc (i - 1) = omega arith in
      record {
        within = omega (arith, k.high);
        sized = length-set digits (i - 1) d ∙ k.sized;
        gives = rw (drop_set digits (i - 1) d (omega (arith, k.sized, k.high)), e, ← p) (ap (λ (s : List ℕ). s ++ drop i digits) (sym (last_digit small)) ∙ k.gives);
      }

  pub spelling_end : i ≤ 1 → {d : ℕ} → d ≡ 48 + rest % 10 → Spelt (decimal n) 0 (set digits 0 d)
  unfolding tens
  spelling_end h {d} e =
      let one : i ≡ 1 = omega (arith, k.low) in
      let few : rest < tens 1 = rw one at k.few in
      record {
        within = omega arith;
        sized = length-set digits 0 d ∙ k.sized;
        gives = rw (drop_set digits 0 d (omega (arith, k.sized)), e) (ap (λ (s : List ℕ). s ++ drop 1 digits) (sym (last_digit (omega (arith, few)))) ∙ rw one at k.gives);
      }

-- what stands at the end of the array is stored in a buffer
pub spelt_put : {text digits buffer after : List ℕ} {from at behind : ℕ} → Spelt text from digits
    → Clipped buffer at (take (20 - from) (drop from digits)) behind after → Clipped buffer at text behind after
spelt_put {digits = digits} {from = from} s p = clip_as (take_all (20 - from) (drop from digits) (omega (arith, length-drop from digits, s.sized)) ∙ s.gives) p

-- ---- how many digits a number has

-- a number below so many tens has at most so many
digits : (k n : ℕ) → n < tens (suc k) → length (decimal n) ≤ suc k
unfolding tens
digits zero n h = rw (decimal_digit n (omega arith)) (omega arith)
digits (suc k) n h = go (ltb n 10) refl (digits k (n / 10))
  where
    go : (b : Bool) → ltb n 10 ≡ b → (n / 10 < tens (suc k) → length (decimal (n / 10)) ≤ suc k) → length (decimal n) ≤ suc (suc k)
    go true e f = rw (decimal_digit n (ltb-true n 10 e)) (omega arith)
    go false e f =
        let few : length (decimal (n / 10)) ≤ suc k = f (omega arith) in
        rw (decimal_more n (ltb-false n 10 e)) (omega (arith, length-append (decimal (n / 10)) ((48 + n % 10) ∷ [])))

pub decimal_short : {n : ℕ} → Fits w64 n → length (decimal n) ≤ 20
unfolding tens
decimal_short {n} small = digits 19 n (omega (arith, small.fits))
