-- What is shown has no control.
-- Assumes nothing.
use Prim.Native.Nat.{ℕ, ◌+◌, ◌/◌, ◌%◌, ◌<◌, ◌≤◌}
use mathlib.Core.Path.{◌≡◌, refl}
use mathlib.Core.Bool.{Bool, true, false, cond}
use mathlib.Core.List.{List, [], ◌∷◌, ◌++◌}
use native.Mathlib.Omega.{arith}
use lib.Dec.{eqb, ltb}
use borrow.Author.Tests.{ltb-true, eqb-true, le-ltb, ne_eqb}
use Rattle.say_shown.specs.Shown.{is_control, capital_digit, shown_byte, shown, is_plain}

plain_above : (b : ℕ) → 0x20 ≤ b → b < 0x7F → is_control b ≡ false
unfolding is_control
plain_above b h l = let other : b ≡ 0x7F → ⊥ = λ (e : b ≡ 0x7F). omega arith in rw (le-ltb _ _ h, ne_eqb _ _ other)

control_small : (b : ℕ) → is_control b ≡ true → b < 0x80
unfolding is_control
control_small b = go (ltb b 0x20) refl
  where
    go : (t : Bool) → ltb b 0x20 ≡ t → cond t true (eqb b 0x7F) ≡ true → b < 0x80
    go true e f = let h : b < 0x20 = ltb-true _ _ e in omega arith
    go false e f = let h : b ≡ 0x7F = eqb-true _ _ f in omega arith

digit_plain : (n : ℕ) → n < 16 → is_control (capital_digit n) ≡ false
unfolding capital_digit
digit_plain n h = go (ltb n 10)
  where
    go : (t : Bool) → is_control (cond t (48 + n) (55 + n)) ≡ false
    go true = plain_above (48 + n) (omega arith) (omega arith)
    go false = plain_above (55 + n) (omega arith) (omega arith)

byte_plain : (b : ℕ) (s : List ℕ) → is_plain s ≡ true → is_plain (shown_byte b ++ s) ≡ true
unfolding shown_byte is_plain
byte_plain b s p = go (is_control b) refl
  where
    go : (t : Bool) → is_control b ≡ t
        → is_plain (cond t (0x7B ∷ 0x24 ∷ capital_digit (b / 16) ∷ capital_digit (b % 16) ∷ 0x7D ∷ []) (b ∷ []) ++ s) ≡ true
    go true e =
        let small : b < 0x80 = control_small b e in
        rw (
          plain_above 0x7B (omega arith) (omega arith),
          plain_above 0x24 (omega arith) (omega arith),
          plain_above 0x7D (omega arith) (omega arith),
          digit_plain (b / 16) (omega arith),
          digit_plain (b % 16) (omega arith),
        ) p
    go false e = rw e p

-- whatever the bytes are, no control is among what is shown of them
pub shown_plain : (s : List ℕ) → is_plain (shown s) ≡ true
unfolding shown is_plain
shown_plain [] = refl
shown_plain (b ∷ s) = byte_plain b (shown s) (shown_plain s)
