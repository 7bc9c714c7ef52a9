-- Shares (document 02, No. 12: "Shares of an empty total are 0; shares sum to at most 1,000").
-- Assumes nothing.
use Prim.Native.Nat.{ℕ, zero, suc, ◌*◌, ◌≤◌}
use mathlib.Core.Path.{◌≡◌, refl}
use mathlib.Core.Bool.{Bool, true, false, cond}
use mathlib.Core.List.{List}
use native.Mathlib.Omega.{arith}
use native.Mathlib.Nat.{div-mul-le_self, le_of_mul-le-mul_right, add-mul, mul-add}
use lib.Dec.{leb}
use lib.ListN.{get_or}
use Rattle.count_totals.specs.TokenTotals.{sum_below, tokens_sum, is_totals, tokens_counted, thousandths, share_of}

-- a share of a sum, so many times the sum, is no more than 1,000 times the count
thousandths_most : (n s : ℕ) → thousandths n s * s ≤ 1000 * n
thousandths_most n zero = omega arith
thousandths_most n (suc s) = div-mul-le_self (1000 * n) (suc s)

module _ (t : List ℕ) where
  share_most : (k : ℕ) → share_of t k * tokens_counted t ≤ 1000 * get_or t k 0
  unfolding share_of
  share_most k = go (leb 0xCC k)
    where
      go : (b : Bool) → cond b 0 (thousandths (get_or t k 0) (tokens_counted t)) * tokens_counted t ≤ 1000 * get_or t k 0
      go true = omega arith
      go false = thousandths_most (get_or t k 0) (tokens_counted t)

  sum_most : (n : ℕ) → sum_below n (share_of t) * tokens_counted t ≤ 1000 * sum_below n (λ k. get_or t k 0)
  unfolding sum_below
  sum_most zero = omega arith
  sum_most (suc n) =
      omega
      (arith, add-mul (sum_below n (share_of t)) (share_of t n) (tokens_counted t), mul-add 1000 (sum_below n (λ k. get_or t k 0)) (get_or t n 0), sum_most n, share_most n)

  -- where nothing is counted, nothing has a share
  pub empty_shares : tokens_counted t ≡ 0 → (k : ℕ) → share_of t k ≡ 0
  unfolding share_of
  empty_shares e k = rw e (go (leb 0xCC k))
    where
      go : (b : Bool) → ◌≡◌ {A = ℕ} (cond b 0 0) 0
      go true = refl
      go false = refl

  empty_sum : tokens_counted t ≡ 0 → (n : ℕ) → sum_below n (share_of t) ≡ 0
  unfolding sum_below
  empty_sum e zero = refl
  empty_sum e (suc n) = omega (arith, empty_sum e n, empty_shares e n)

  -- of a sum that is the sum of the counts
  whole : (n : ℕ) → tokens_counted t ≡ n → sum_below 0xCC (λ k. get_or t k 0) ≡ n → sum_below 0xCC (share_of t) ≤ 1000
  whole zero e f = omega (arith, empty_sum e 0xCC)
  whole (suc n) e f =
      let most : sum_below 0xCC (share_of t) * suc n ≤ 1000 * suc n = rw (e, f) at (sum_most 0xCC) in
      le_of_mul-le-mul_right most (omega arith)

  -- of any numbers
  pub shares_most : sum_below 0xCC (share_of t) ≤ 1000
  unfolding tokens_counted tokens_sum
  shares_most = go (is_totals t) refl
    where
      go : (b : Bool) → is_totals t ≡ b → sum_below 0xCC (share_of t) ≤ 1000
      go true e = whole (tokens_sum t) (rw e) refl
      go false e = omega (arith, empty_sum (rw e) 0xCC)
