-- The message schedule, filled word by word.
-- Assumes nothing.
use Rattle.std.proofs.Common.{◌≡◌, ℕ, ◌+◌, ◌-◌, ◌*◌, ◌<◌, ◌≤◌, cond, ltb, List, [], ◌∷◌, take, set, replicate, sym, refl, ◌∙◌, add-one, arith, length-set, take_all, get_or-take, take-suc-set, le-ltb, lt-ltb}
use Rattle.std.specs.Int.{from_be_bytes, w32}
use Rattle.digest_sha256.specs.Sha256.{block_word, next_word, scheduled}
use Rattle.digest_sha256.specs.StepHelpers.{Filled}

-- four bytes as a word
pub be_word : (a b c d : ℕ) → from_be_bytes w32 (a ∷ b ∷ c ∷ d ∷ []) ≡ ((a * 256 + b) * 256 + c) * 256 + d
be_word a b c d = omega arith

-- both read only what stands before the place
word_within : (l : List ℕ) (t : ℕ) → t < 16 → block_word (take 64 l) t ≡ block_word l t
unfolding block_word
word_within l t h = rw (get_or-take 64 l (4 * t) 0 (omega arith), get_or-take 64 l (4 * t + 1) 0 (omega arith), get_or-take 64 l (4 * t + 2) 0 (omega arith), get_or-take 64 l (4 * t + 3) 0 (omega arith))

next_within : (w : List ℕ) (t : ℕ) → 16 ≤ t → next_word (take t w) t ≡ next_word w t
unfolding next_word
next_within w t h = rw (get_or-take t w (t - 2) 0 (omega arith), get_or-take t w (t - 7) 0 (omega arith), get_or-take t w (t - 15) 0 (omega arith), get_or-take t w (t - 16) 0 (omega arith))

module _ {b w : List ℕ} {t x : ℕ} (f : Filled b t w) where
  one_more : t < 64 → x ≡ cond (ltb t 16) (block_word b t) (next_word (scheduled b t) t) → Filled b (t + 1) (set w t x)
  unfolding scheduled
  one_more h e =
      record {
        long = length-set w t x ∙ f.long;
        filled = rw (add-one, take-suc-set w t x (omega (arith, f.long)), f.filled, e);
      }

  pub next_filled : x ≡ next_word w t → 16 ≤ t → t < 64 → Filled b (t + 1) (set w t x)
  next_filled e low high = one_more high (rw (le-ltb _ _ low, ← f.filled, next_within w t low) e)

pub word_filled : (l : List ℕ) {w : List ℕ} {t x : ℕ} → Filled (take 64 l) t w → x ≡ block_word l t → t < 16 → Filled (take 64 l) (t + 1) (set w t x)
word_filled l {w} {t} f e h = one_more f (omega arith) (rw (lt-ltb _ _ h, word_within l t h) e)

pub none_filled : (b : List ℕ) → Filled b 0 (replicate 64 0)
unfolding scheduled
none_filled b = record { long = refl; filled = refl }

pub all_filled : {b w : List ℕ} {t : ℕ} → Filled b t w → t ≤ 64 → 64 ≤ t → w ≡ scheduled b 64
all_filled {b} {w} {t} f h g = let e : t ≡ 64 = omega arith in sym (take_all 64 w (omega (arith, f.long))) ∙ rw e at f.filled

pub words_filled : {b w : List ℕ} {t : ℕ} → Filled b t w → t ≤ 16 → 16 ≤ t → Filled b 16 w
words_filled {b} {w} {t} f h g = let e : t ≡ 16 = omega arith in rw e at f
