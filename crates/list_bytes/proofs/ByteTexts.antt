-- Hex digits worked out, and two of them are a byte's.
-- Assumes nothing.
use Prim.Native.Nat.{ℕ, zero, suc, ◌+◌, ◌-◌, ◌/◌, ◌%◌, ◌≤◌, ◌<◌}
use mathlib.Core.Path.{◌≡◌, sym, ◌∙◌, subst}
use mathlib.Core.Bool.{Bool, true, cond, ◌&&◌}
use mathlib.Core.List.{[], ◌∷◌}
use mathlib.Core.Logic.{◌⊎◌, inl, inr}
use native.Mathlib.Nat.{not-suc-le-zero, eq-or-lt_of_le, le_of_suc-le-suc}
use native.Mathlib.Omega.{arith}
use lib.Dec.{T, eqb, ltb, eqb→eq}
use lib.ListN.{get_or}
use mir.Syntax.{w8}
use mir.Val.{Fits}
use borrow.Author.Tests.{lt-ltb, le-ltb}
use Rattle.word_search.proofs.Search.{and_left, and_right}
use Rattle.list_bytes.specs.ByteTexts.{hex_digits, hex_byte}

-- a digit worked out from its value
worked_out : ℕ → ℕ
worked_out n = cond (ltb n 10) (0x30 + n) (0x41 + (n - 10))

-- it is the digit of each value below n
right_below : ℕ → Bool
right_below zero = true
right_below (suc n) = eqb (worked_out n) (get_or hex_digits n 0) && right_below n

right_at : (m : ℕ) → T (right_below m) → (n : ℕ) → n < m → worked_out n ≡ get_or hex_digits n 0
unfolding right_below
right_at zero t n h = absurd (not-suc-le-zero h)
right_at (suc m) t n h = go (right_at m (and_right (eqb (worked_out m) (get_or hex_digits m 0)) _ t) n) (eq-or-lt_of_le (le_of_suc-le-suc h))
  where
    go : (n < m → worked_out n ≡ get_or hex_digits n 0) → (n ≡ m) ⊎ (n < m) → worked_out n ≡ get_or hex_digits n 0
    go below (inl e) =
        subst (λ (k : ℕ). worked_out k ≡ get_or hex_digits k 0) (sym e)
        (eqb→eq (worked_out m) (get_or hex_digits m 0) (and_left (eqb (worked_out m) (get_or hex_digits m 0)) _ t))
    go below (inr l) = below l

sixteen : T (right_below 16)
unfolding right_below worked_out hex_digits
sixteen = tt

module _ (value : ℕ) where
  pub digit_low : value % 16 < 10 → 0x30 + value % 16 ≡ get_or hex_digits (value % 16) 0
  unfolding worked_out
  digit_low h = let w : worked_out (value % 16) ≡ 0x30 + value % 16 = simp (lt-ltb _ _ h) in sym w ∙ right_at 16 sixteen (value % 16) (omega arith)

  pub digit_high : 10 ≤ value % 16 → 0x41 + (value % 16 - 10) ≡ get_or hex_digits (value % 16) 0
  unfolding worked_out
  digit_high h = let w : worked_out (value % 16) ≡ 0x41 + (value % 16 - 10) = simp (le-ltb _ _ h) in sym w ∙ right_at 16 sixteen (value % 16) (omega arith)

module _ {b high low : ℕ} (small : Fits w8 b) (h : high ≡ get_or hex_digits (b / 16 % 16) 0) (l : low ≡ get_or hex_digits (b % 16 % 16) 0) where
  pub hex_digits_lem : high ∷ low ∷ [] ≡ hex_byte b
  unfolding hex_byte
  hex_digits_lem =
      let d : b / 16 % 16 ≡ b / 16 = omega (arith, small.fits) in
      let e : b % 16 % 16 ≡ b % 16 = omega arith in
      rw (h, l, d, e)
