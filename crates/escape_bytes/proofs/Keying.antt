-- What each key that is held gives with a byte.
-- Assumes nothing.
use Prim.Native.Nat.{ℕ, ◌+◌, ◌-◌, ◌%◌}
use mathlib.Core.Path.{◌≡◌, sym, ◌∙◌}
use mathlib.Core.Bool.{Bool, true, false}
use lib.ListN.{get_or}
use Rattle.base_ascii.specs.Bytes.{is_digit, is_letter, upper}
use Rattle.escape_bytes.specs.KeyCodes.{cbm_letters, ctrl_digits}
use Rattle.escape_bytes.specs.Keys.{control_byte, known, key_with}
use Rattle.escape_bytes.specs.declared.Escape.{Escape}
use Rattle.escape_bytes.specs.declared.Key.{Key}
use Rattle.escape_bytes.specs.declared.Key.TheVariants.{Commodore, Shift}
use Rattle.std.specs.Prelude.{Option, None}

module _ (b : ℕ) {d : Bool} where
  pub control_digit : {k w : ℕ} → k ≡ get_or ctrl_digits w 0 → w ≡ b - 48 → d ≡ true → d ≡ is_digit b → k ≡ control_byte b
  unfolding control_byte
  control_digit q v e p = q ∙ rw v (simp (sym p ∙ e))

  module _ {l : Bool} where
    pub control_letter : {u : ℕ} → u ≡ upper b → l ≡ true → l ≡ is_letter b → d ≡ false → d ≡ is_digit b → u - 64 ≡ control_byte b
    unfolding control_byte
    control_letter v f q e p = simp (sym p ∙ e, sym q ∙ f, v)

    pub control_other : l ≡ false → l ≡ is_letter b → d ≡ false → d ≡ is_digit b → b % 32 ≡ control_byte b
    unfolding control_byte
    control_other f q e p = simp (sym p ∙ e, sym q ∙ f)

-- what is known where a `match` found the key
pub for_key : (b count : ℕ) {key k : Key} {r : Option Escape} → key ≡ k → r ≡ key_with k b count → r ≡ key_with key b count
for_key b count e q = rw e q

module _ (b : ℕ) where
  module _ (count : ℕ) {r : Bool} where
    pub commodore_letter : {k u w : ℕ} → k ≡ get_or cbm_letters w 0 → w ≡ u - 65 → u ≡ upper b → r ≡ true → r ≡ is_letter b → known k count ≡ key_with Commodore b count
    unfolding key_with
    commodore_letter p q v n e = rw (key_with, sym e ∙ n, p, q, v)

    pub shift_letter : {u : ℕ} → u ≡ upper b → r ≡ true → r ≡ is_letter b → known (0xC0 + (u - 64)) count ≡ key_with Shift b count
    unfolding key_with
    shift_letter v n e = rw (key_with, sym e ∙ n, v)

    pub commodore_other : r ≡ false → r ≡ is_letter b → None ≡ key_with Commodore b count
    unfolding key_with
    commodore_other n e = rw (key_with, sym e ∙ n)

    pub shift_other : r ≡ false → r ≡ is_letter b → None ≡ key_with Shift b count
    unfolding key_with
    shift_other n e = rw (key_with, sym e ∙ n)
