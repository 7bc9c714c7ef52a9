-- The sum of the tokens' counts.
-- Assumes nothing.
use Prim.Native.Nat.{ℕ, zero, suc, ◌+◌, ◌-◌, ◌≤◌, ◌<◌, min}
use mathlib.Core.Path.{◌≡◌, refl}
use mathlib.Core.List.{List}
use native.Mathlib.Omega.{arith}
use native.Mathlib.Numerals.{add-one}
use lib.ListN.{length, get_or, take}
use Rattle.std.proofs.lemmas.List.{length-take-le, get_or-take}
use Rattle.count_totals.specs.TokenTotals.{sum_below, tokens_sum}

sum_more : (n d : ℕ) (f : ℕ → ℕ) → sum_below n f ≤ sum_below (d + n) f
unfolding sum_below
sum_more n zero f = let e : 0 + n ≡ n = omega arith in rw e (omega arith)
sum_more n (suc d) f = let e : suc d + n ≡ suc (d + n) = omega arith in rw e (omega (arith, sum_more n d f))

pub sum_up : {n m : ℕ} (f : ℕ → ℕ) → n ≤ m → sum_below n f ≤ sum_below m f
sum_up {n} {m} f h = let e : m - n + n ≡ m = omega arith in rw e at (sum_more n (m - n) f)

pub sum_next : (n : ℕ) (f : ℕ → ℕ) → sum_below (n + 1) f ≡ sum_below n f + f n
unfolding sum_below
sum_next n f = rw add-one

-- the counts below k are summed up
pub record Summed (t : List ℕ) (most k sum : ℕ) : Type 0 where
  pub within : k ≤ 0xCC
  pub is : sum ≡ sum_below k (λ j. get_or t j 0)
  pub low : sum ≤ most

pub summed_start : (t : List ℕ) (most : ℕ) → Summed t most 0 0
unfolding sum_below
summed_start t most = record { within = omega arith; is = refl; low = omega arith }

module _ {t : List ℕ} {most k sum : ℕ} (long : length t ≡ 206) (s : Summed t most k sum) where
  -- the counts stand in front
  counts_long : length (take 0xCC t) ≡ 0xCC
  counts_long = length-take-le 0xCC t (omega arith)

  count_is : k < length (take 0xCC t) → get_or (take 0xCC t) k 0 ≡ get_or t k 0
  count_is h = get_or-take 0xCC t k 0 (omega (arith, counts_long))

  pub summed_turn : k < length (take 0xCC t) → get_or (take 0xCC t) k 0 ≤ most - sum → Summed t most (k + 1) (sum + get_or (take 0xCC t) k 0)
  summed_turn h l =
      rw (count_is h)
      (record {
        within = omega (arith, counts_long);
        is = omega (arith, s.is, sum_next k (λ j. get_or t j 0));
        low = omega (arith, s.low, count_is h);
      })

  pub summed_over : k < length (take 0xCC t) → most - sum < get_or (take 0xCC t) k 0 → most + 1 ≡ min (tokens_sum t) (most + 1)
  unfolding tokens_sum
  summed_over h l =
      let up : k + 1 ≤ 0xCC = omega (arith, counts_long) in
      omega (arith, s.is, s.low, count_is h, sum_next k (λ j. get_or t j 0), sum_up (λ j. get_or t j 0) up)

  pub summed_end : length (take 0xCC t) ≤ k → sum ≡ min (tokens_sum t) (most + 1)
  unfolding tokens_sum
  summed_end h =
      let e : k ≡ 0xCC = omega (arith, s.within, counts_long) in
      omega (arith, rw e at s.is, s.low)
