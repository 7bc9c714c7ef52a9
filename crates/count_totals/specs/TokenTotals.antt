-- Numbers that are totals, the tokens that they count, and each token's share (document 02, No. 12: "Shares of an empty total are 0").
-- Assumes nothing.
use Rattle.std.specs.Prelude.{ℕ, zero, suc, ◌+◌, ◌*◌, ◌/◌, Bool, cond, ◌&&◌, List, eqb, leb, length, get_or}

abbrev pub images_taken : List ℕ → ℕ
images_taken t = get_or t 0xCC 0

abbrev pub images_refused : List ℕ → ℕ
images_refused t = get_or t 0xCD 0

-- the sum of f k for each k below n
unfoldable pub sum_below : ℕ → (ℕ → ℕ) → ℕ
sum_below zero f = 0
sum_below (suc n) f = sum_below n f + f n

-- the sum of all tokens' counts
unfoldable pub tokens_sum : List ℕ → ℕ
tokens_sum t = sum_below 0xCC (λ k. get_or t k 0)

-- totals are 206 numbers of at most 1,000 images, of 1,048,576 bytes each: `totals_are` of `count_images` has it that those of images are
unfoldable pub is_totals : List ℕ → Bool
unfolding tokens_sum
is_totals t =
    eqb (length t) 206
    && (leb (images_taken t) 1000
    && (leb (images_refused t) (images_taken t)
    && leb (tokens_sum t) (1048576 * images_taken t)))

-- how many tokens are counted; none in numbers that are no totals
unfoldable pub tokens_counted : List ℕ → ℕ
unfolding is_totals tokens_sum
tokens_counted t = cond (is_totals t) (tokens_sum t) 0

-- "its share of all counted tokens in thousandths, rounded down", 0 where none is counted
abbrev pub thousandths : ℕ → ℕ → ℕ
thousandths n zero = 0
thousandths n (suc sum) = 1000 * n / suc sum

-- what is no token has no share
unfoldable pub share_of : List ℕ → ℕ → ℕ
unfolding tokens_counted
share_of t k = cond (leb 0xCC k) 0 (thousandths (get_or t k 0) (tokens_counted t))
