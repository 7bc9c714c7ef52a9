-- How bytes are shown, one after the other.
-- Assumes nothing.
use Prim.Native.Nat.{ℕ, ◌+◌, ◌/◌, ◌%◌, ◌≤◌, ◌<◌}
use mathlib.Core.Path.{◌≡◌}
use mathlib.Core.Bool.{Bool, true, false}
use mathlib.Core.List.{List, [], ◌∷◌, ◌++◌}
use native.Mathlib.Numerals.{add-one}
use native.Mathlib.Omega.{arith}
use lib.ListN.{length, get_or, drop, drop_of_length-le}
use lib.Seq.{drop-cons}
use Rattle.say_put.specs.Clipped.{Clipped}
use Rattle.say_put.proofs.Clipping.{Owes, owes_all, owes_less, owes_none, clip_as, clip_both}
use Rattle.say_shown.specs.Shown.{is_control, capital_digit, shown_byte, shown, shown_line}

module _ {buffer : List ℕ} {at behind : ℕ} {after : List ℕ} (b : ℕ) {high low : ℕ} where
  pub shows_control : {r : Bool} → r ≡ true → r ≡ is_control b → high ≡ capital_digit (b / 16) → low ≡ capital_digit (b % 16)
      → Clipped buffer at (0x7B ∷ 0x24 ∷ high ∷ low ∷ 0x7D ∷ []) behind after → Clipped buffer at (shown_byte b) behind after
  unfolding shown_byte
  shows_control t e h l p = clip_as (rw (h, l, ← e, t)) p

pub shows_itself : {buffer : List ℕ} {at behind : ℕ} {after : List ℕ} (b : ℕ) {r : Bool} → r ≡ false → r ≡ is_control b
    → Clipped buffer at (b ∷ []) behind after → Clipped buffer at (shown_byte b) behind after
unfolding shown_byte
shows_itself b t e p = clip_as (rw (← e, t)) p

-- of a text i bytes are shown, and the rest is owed
pub record Showing (text : List ℕ) (at : ℕ) (buffer out : List ℕ) (i to : ℕ) : Type 0 where
  pub few : i ≤ length text
  pub owes : Owes buffer at (shown text) out to (shown (drop i text))

pub showing_start : (text : List ℕ) {at : ℕ} {buffer : List ℕ} → at ≤ length buffer → Showing text at buffer buffer 0 at
showing_start text h = record { few = omega arith; owes = owes_all (shown text) h }

shown_next : (text : List ℕ) (i : ℕ) → i < length text → shown (drop i text) ≡ shown_byte (get_or text i 0) ++ shown (drop (i + 1) text)
unfolding shown
shown_next text i h = rw (drop-cons text i 0 h, add-one)

module _ {text : List ℕ} {at : ℕ} {buffer out : List ℕ} {i to : ℕ} (k : Showing text at buffer out i to) where
  pub showing_turn : i < length text → {mid : ℕ} {half : List ℕ} → Clipped out to (shown_byte (get_or text i 0)) mid half → Showing text at buffer half (i + 1) mid
  showing_turn h p = record { few = omega arith; owes = owes_less (shown_byte (get_or text i 0)) (shown (drop (i + 1) text)) k.owes (shown_next text i h) p }

  pub showing_end : length text ≤ i → Clipped buffer at (shown text) to out
  unfolding shown
  showing_end h = owes_none k.owes (rw (drop_of_length-le text h))

pub shows_line : (words : List ℕ) {buffer half after : List ℕ} {at mid behind : ℕ} → Clipped buffer at (shown words) mid half → Clipped half mid (0x0A ∷ []) behind after
    → Clipped buffer at (shown_line words) behind after
unfolding shown_line
shows_line words p q = clip_both _ _ p q
