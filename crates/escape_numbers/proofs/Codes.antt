-- The codes of digits and letters: what is taken from them stays within a byte.
-- Assumes nothing.
use Prim.Native.Nat.{ℕ, ◌+◌, ◌-◌, ◌≤◌, ◌<◌}
use mathlib.Core.Path.{◌≡◌, sym, ◌∙◌}
use mathlib.Core.Bool.{Bool, true}
use native.Mathlib.Omega.{arith}
use mir.Syntax.{w8}
use mir.Val.{Fits}
use Rattle.base_ascii.specs.Bytes.{is_digit, is_letter, upper}
use Rattle.base_ascii.proofs.Ranges.{between_in}

module _ (b : ℕ) {r : Bool} where
  pub digit_low : r ≡ true → r ≡ is_digit b → 48 ≤ b
  digit_low e p = (between_in 48 57 b (sym p ∙ e)).0

  pub digit_place : {w : ℕ} → w ≡ b - 48 → r ≡ true → r ≡ is_digit b → w < 10
  digit_place v e p = omega (arith, between_in 48 57 b (sym p ∙ e))

  module _ {u : ℕ} where
    pub letter_low : u ≡ upper b → r ≡ true → r ≡ is_letter b → 64 ≤ u
    letter_low v e p = omega (arith, between_in 65 90 (upper b) (sym p ∙ e))

    pub letter_digit : u ≡ upper b → r ≡ true → r ≡ is_letter b → 55 ≤ u
    letter_digit v e p = omega (arith, between_in 65 90 (upper b) (sym p ∙ e))

    pub letter_first : u ≡ upper b → r ≡ true → r ≡ is_letter b → 65 ≤ u
    letter_first v e p = omega (arith, between_in 65 90 (upper b) (sym p ∙ e))

    pub letter_place : {w : ℕ} → w ≡ u - 65 → u ≡ upper b → r ≡ true → r ≡ is_letter b → w < 26
    letter_place q v e p = omega (arith, between_in 65 90 (upper b) (sym p ∙ e))

    pub letter_shifted : u ≡ upper b → r ≡ true → r ≡ is_letter b → Fits w8 (0xC0 + (u - 64))
    letter_shifted v e p = record { fits = omega (arith, between_in 65 90 (upper b) (sym p ∙ e)) }
