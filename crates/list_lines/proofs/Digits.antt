-- The digits of a line number: how many they are, and the last of five.
-- Assumes nothing.
use Prim.Native.Nat.{ℕ, zero, suc, ◌+◌, ◌-◌, ◌/◌, ◌%◌, ◌≤◌, ◌<◌}
use mathlib.Core.Path.{◌≡◌, refl, sym, ap, ◌∙◌}
use mathlib.Core.Bool.{Bool, true, false}
use mathlib.Core.List.{List, [], ◌∷◌, ◌++◌}
use native.Mathlib.Numerals.{add-one}
use native.Mathlib.Omega.{arith}
use lib.Dec.{ltb}
use mir.Syntax.{w16}
use mir.Val.{Fits}
use lib.ListN.{length, take, drop, length-append, length-drop}
use lib.Seq.{take_all}
use borrow.Author.Tests.{ltb-false, ltb-true}
use Rattle.base_steps.proofs.Nearer.{by_nearer}
use Rattle.base_steps.specs.Decimal.{decimal}
use Rattle.base_steps.proofs.Digits.{decimal_digit, decimal_more}

-- ---- how many

one_more : (n : ℕ) → 10 ≤ n → length (decimal n) ≡ length (decimal (n / 10)) + 1
one_more n h = ap length (decimal_more n h) ∙ length-append (decimal (n / 10)) ((48 + n % 10) ∷ [])

pub places_one : (n : ℕ) → n < 10 → 1 ≡ length (decimal n)
places_one n h = sym (ap length (decimal_digit n h))

pub places_two : (n : ℕ) → 10 ≤ n → n < 100 → 2 ≡ length (decimal n)
places_two n l h = omega (arith, one_more n l, places_one (n / 10) (omega arith))

pub places_three : (n : ℕ) → 100 ≤ n → n < 1000 → 3 ≡ length (decimal n)
places_three n l h = omega (arith, one_more n (omega arith), places_two (n / 10) (omega arith) (omega arith))

pub places_four : (n : ℕ) → 1000 ≤ n → n < 10000 → 4 ≡ length (decimal n)
places_four n l h = omega (arith, one_more n (omega arith), places_three (n / 10) (omega arith) (omega arith))

pub places_five : (n : ℕ) → 10000 ≤ n → Fits w16 n → 5 ≡ length (decimal n)
places_five n l h = omega (arith, one_more n (omega arith), places_four (n / 10) (omega arith) (omega (arith, h.fits)))

-- one more place than a tenth has, if it has one
most_on : (k n : ℕ) → (10 ≤ n → length (decimal (n / 10)) ≤ k) → length (decimal n) ≤ suc k
most_on k n tenth = go (ltb n 10) refl
  where
    go : (b : Bool) → ltb n 10 ≡ b → length (decimal n) ≤ suc k
    go true e = omega (arith, places_one n (omega (arith, ltb-true n 10 e)))
    go false e = let h : 10 ≤ n = ltb-false n 10 e in omega (arith, one_more n h, tenth h)

pub places_most : (n : ℕ) → n < 65536 → length (decimal n) ≤ 5
places_most n h =
    most_on 4 n (λ _. most_on 3 (n / 10) (λ _. most_on 2 (n / 10 / 10) (λ _. most_on 1 (n / 10 / 10 / 10) (λ _.
    most_on 0 (n / 10 / 10 / 10 / 10) (λ l. absurd (omega arith))))))

pub places_few : (n : ℕ) {k : ℕ} → k ≡ length (decimal n) → Fits w16 n → k ≤ 5
places_few n e small = omega (arith, places_most n (omega (arith, small.fits)))

-- ---- the last of five

-- the last k digits, from the lowest on
low_digits : ℕ → ℕ → List ℕ
low_digits zero n = []
low_digits (suc k) n = low_digits k (n / 10) ++ ((48 + n % 10) ∷ [])

decimal_low : (n : ℕ) → decimal n ≡ low_digits (length (decimal n)) n
unfolding low_digits
decimal_low = by_nearer (λ n. n) (λ n. decimal n ≡ low_digits (length (decimal n)) n) (λ n ih. go n ih (ltb n 10) refl)
  where
    go : (n : ℕ) → ((m : ℕ) → m < n → decimal m ≡ low_digits (length (decimal m)) m) → (b : Bool) → ltb n 10 ≡ b → decimal n ≡ low_digits (length (decimal n)) n
    go n ih true e =
        let h : n < 10 = ltb-true n 10 e in
        let d : n ≡ n % 10 = omega arith in
        rw (← places_one n h) (decimal_digit n h ∙ ap (λ (m : ℕ). (48 + m) ∷ []) d)
    go n ih false e =
        let h : 10 ≤ n = ltb-false n 10 e in
        let l : length (decimal n) ≡ suc (length (decimal (n / 10))) = one_more n h ∙ add-one _ in
        rw l (decimal_more n h ∙ ap (λ (ds : List ℕ). ds ++ ((48 + n % 10) ∷ [])) (ih (n / 10) (omega arith)))

abbrev five_digits : ℕ → List ℕ
five_digits n =
    (48 + n / 10000 % 10) ∷ (48 + n / 1000 % 10) ∷ (48 + n / 100 % 10) ∷ (48 + n / 10 % 10) ∷ (48 + n / 1 % 10) ∷ []

-- tenths of tenths
whole : (n : ℕ) → n / 1 ≡ n
whole n = omega arith

hundredth : (n : ℕ) → n / 100 ≡ n / 10 / 10
hundredth n = omega arith

thousandth : (n : ℕ) → n / 1000 ≡ n / 10 / 10 / 10
thousandth n = omega arith

ten_thousandth : (n : ℕ) → n / 10000 ≡ n / 10 / 10 / 10 / 10
ten_thousandth n = omega arith

last_of_five : (k n : ℕ) → k ≤ 5 → drop (5 - k) (five_digits n) ≡ low_digits k n
unfolding low_digits
last_of_five zero n h = refl
last_of_five (suc zero) n h = rw (whole n)
last_of_five (suc (suc zero)) n h = rw (whole n)
last_of_five (suc (suc (suc zero))) n h = rw (whole n, hundredth n)
last_of_five (suc (suc (suc (suc zero)))) n h = rw (whole n, hundredth n, thousandth n)
last_of_five (suc (suc (suc (suc (suc zero))))) n h = rw (whole n, hundredth n, thousandth n, ten_thousandth n)
last_of_five (suc (suc (suc (suc (suc (suc k)))))) n h = absurd (omega arith)

module _ (n : ℕ) (small : Fits w16 n) {a b c d e k : ℕ} (pa : a ≡ 48 + n / 10000 % 10) (pb : b ≡ 48 + n / 1000 % 10) (pc : c ≡ 48 + n / 100 % 10) (pd : d ≡ 48 + n / 10 % 10) (pe : e ≡ 48 + n / 1 % 10) (pk : k ≡ length (decimal n)) where
  pub digits_are : take (5 - (5 - k)) (drop (5 - k) (a ∷ b ∷ c ∷ d ∷ e ∷ [])) ≡ decimal n
  digits_are =
      let five = a ∷ b ∷ c ∷ d ∷ e ∷ [] in
      take_all (5 - (5 - k)) (drop (5 - k) five) (omega (arith, length-drop (5 - k) five))
      ∙ rw (pa, pb, pc, pd, pe, pk) (last_of_five (length (decimal n)) n (places_most n (omega (arith, small.fits))) ∙ sym (decimal_low n))
