-- A text whose last byte is neither a digit nor white space has no count at its end, wherever one might begin.
-- Assumes nothing.
use Prim.Native.Nat.{ℕ, zero, suc, ◌+◌, ◌-◌, ◌*◌, ◌^◌, ◌≤◌}
use mathlib.Core.Path.{◌≡◌, refl, sym, ap, ◌∙◌}
use mathlib.Core.Bool.{Bool, true, false, ◌||◌, false≢true}
use mathlib.Core.List.{List, [], ◌∷◌}
use native.Mathlib.Omega.{arith}
use lib.ListN.{length, get_or, drop}
use lib.Dec.{ltb, eqb}
use borrow.Author.Tests.{le-ltb}
use Rattle.base_ascii.specs.Bytes.{between, is_digit, is_letter, is_space, upper}
use Rattle.base_ascii.specs.Search.{front, past}
use Rattle.base_ascii.specs.Trim.{trim}
use Rattle.base_ascii.proofs.Ranges.{between_in}
use Rattle.base_ascii.proofs.Searching.{end_whole}
use Rattle.escape_numbers.specs.Numbers.{digit_of, number_after, number_of, unsigned, count_of}
use Rattle.escape_numbers.specs.NumbersHelpers.{last_from, last_of, countable}
use Rattle.escape_numbers.proofs.Numbering.{digit_letter, digit_none}
use Rattle.std.specs.Prelude.{Option, None}

-- ---- the last byte

last_from_lem : (b : ℕ) (s : List ℕ) → get_or (b ∷ s) (length s) 0 ≡ last_from b s
unfolding last_from
last_from_lem b [] = refl
last_from_lem b (c ∷ s) = last_from_lem c s

last_is : (t : List ℕ) → get_or t (length t - 1) 0 ≡ last_of t
unfolding last_of
last_is [] = refl
last_is (b ∷ s) = let e : suc (length s) - 1 ≡ length s = omega arith in ap (λ (n : ℕ). get_or (b ∷ s) n 0) e ∙ last_from_lem b s

-- what is left from a place on has the same last byte, or none
last_drop : (p : ℕ → Bool) → p 0 ≡ false → (k : ℕ) (t : List ℕ) → p (last_of t) ≡ false → p (last_of (drop k t)) ≡ false
unfolding last_of last_from
last_drop p z zero t e = e
last_drop p z (suc k) [] e = e
last_drop p z (suc k) (b ∷ []) e = last_drop p z k [] z
last_drop p z (suc k) (b ∷ c ∷ s) e = last_drop p z k (c ∷ s) e

-- ---- a number ends in a digit

pub no_digit : (b : ℕ) → is_digit b ≡ false → 10 ≤ digit_of b
no_digit b e = go (is_letter b) refl
  where
    go : (r : Bool) → is_letter b ≡ r → 10 ≤ digit_of b
    go true f = omega (arith, between_in 65 90 (upper b) f, digit_letter b refl f refl e refl)
    go false f = omega (arith, digit_none b f refl e refl)

unended : (limit n b : ℕ) (s : List ℕ) → is_digit (last_from b s) ≡ false → number_after 10 limit n (b ∷ s) ≡ None
unfolding number_after last_from
unended limit n b [] e = rw (number_after, le-ltb _ _ (no_digit b e))
unended limit n b (c ∷ s) e = go (ltb (digit_of b) 10) (unended limit (n * 10 + digit_of b) c s e)
  where
    go : (r : Bool) → number_after 10 limit (n * 10 + digit_of b) (c ∷ s) ≡ None
        → ◌≡◌ {A = Option ℕ} (elim r [ true ↦ number_after 10 limit (n * 10 + digit_of b) (c ∷ s) | false ↦ None ]) None
    go true m = m
    go false m = refl

no_number : (limit : ℕ) (s : List ℕ) → is_digit (last_of s) ≡ false → number_of 10 limit s ≡ None
unfolding number_of last_of
no_number limit [] e = refl
no_number limit (b ∷ s) e = unended limit 0 b s e

zero_no_digit : is_digit 0 ≡ false
unfolding between
zero_no_digit = refl

zero_no_space : is_space 0 ≡ false
unfolding between
zero_no_space = refl

last_unsigned : (s : List ℕ) → is_digit (last_of s) ≡ false → is_digit (last_of (unsigned s)) ≡ false
unfolding unsigned
last_unsigned [] e = e
last_unsigned (b ∷ s) e = go (eqb b 43)
  where
    go : (r : Bool) → is_digit (last_of (elim r [ true ↦ s | false ↦ b ∷ s ])) ≡ false
    go true = last_drop is_digit zero_no_digit 1 (b ∷ s) e
    go false = e

no_count : (s : List ℕ) → is_digit (last_of s) ≡ false → count_of s ≡ None
unfolding count_of
no_count s e = no_number (2 ^ 64 - 1) (unsigned s) (last_unsigned s e)

-- ---- no white space at the end to trim

trim_front : (t : List ℕ) → is_space (last_of t) ≡ false → trim t ≡ past is_space t
unfolding trim
trim_front t e = end_whole is_space (past is_space t) (ap is_space (last_is (past is_space t)) ∙ last_drop is_space zero_no_space (front is_space t) t e)

-- ---- both

neither : (a b : Bool) → (a || b) ≡ false → (a ≡ false) × (b ≡ false)
neither true b e = absurd (false≢true (sym e))
neither false b e = (refl, e)

pub uncounted : (t : List ℕ) → countable t ≡ false → (k : ℕ) → count_of (trim (drop k t)) ≡ None
unfolding countable
uncounted t u k =
    let n = neither (is_digit (last_of t)) (is_space (last_of t)) u in
    let rest = drop k t in
    let digit : is_digit (last_of rest) ≡ false = last_drop is_digit zero_no_digit k t n.0 in
    let space : is_space (last_of rest) ≡ false = last_drop is_space zero_no_space k t n.1 in
    ap count_of (trim_front rest space) ∙ no_count (past is_space rest) (last_drop is_digit zero_no_digit (front is_space rest) rest digit)

-- ---- the test of the last byte

pub countable_empty : (t : List ℕ) → length t ≤ 0 → false ≡ countable t
unfolding countable last_of between
countable_empty [] h = refl
countable_empty (b ∷ t) h = absurd (omega arith)

module _ (t : List ℕ) {b : ℕ} (e : b ≡ get_or t (length t - 1) 0) {d : Bool} where
  last_digit : d ≡ is_digit b → is_digit (last_of t) ≡ d
  last_digit p = sym (p ∙ ap is_digit (e ∙ last_is t))

  pub countable_digit : d ≡ true → d ≡ is_digit b → d ≡ countable t
  unfolding countable
  countable_digit f p = rw (last_digit p ∙ f) f

  pub countable_space : {r : Bool} → r ≡ is_space b → d ≡ false → d ≡ is_digit b → r ≡ countable t
  unfolding countable
  countable_space q f p = rw (last_digit p ∙ f) (q ∙ ap is_space (e ∙ last_is t))
