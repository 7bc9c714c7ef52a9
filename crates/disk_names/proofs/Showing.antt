-- A name as it is shown; and that what is shown can be given back.
-- Assumes nothing.
use Prim.Native.Nat.{ℕ, ◌+◌, ◌/◌, ◌%◌, ◌≤◌, ◌<◌}
use mathlib.Core.Path.{◌≡◌, refl, sym, ap, ◌∙◌}
use mathlib.Core.Bool.{Bool, true, false}
use mathlib.Core.List.{List, [], ◌∷◌, ◌++◌}
use native.Mathlib.Omega.{arith}
use lib.ListN.{length, get_or, drop, drop_of_length-le}
use mir.Val.{Fits}
use mir.Syntax.{w8}
use borrow.Author.Tests.{eq-eqb, ne_eqb}
use Rattle.base_ascii.specs.Bytes.{between}
use Rattle.base_ascii.proofs.Searching.{here}
use Rattle.list_bytes.specs.ByteTexts.{hex_digits, hex_byte}
use Rattle.list_bytes.proofs.ByteTexts.{hex_digits_lem}
use Rattle.say_put.specs.Clipped.{Clipped}
use Rattle.say_put.proofs.Clipping.{Owes, owes_all, owes_less, owes_none, clip_as}
use Rattle.disk_names.specs.Names.{is_shown, byte_shown, name_shown}

-- ---- a byte

module _ (b : ℕ) where
  pub never_shown : b ≡ 0x3D → false ≡ is_shown b
  never_shown e = simp (eq-eqb _ _ e)

  pub may_be_shown : {r : Bool} → (b ≡ 0x3D → ⊥) → r ≡ between 0x20 0x5F b → r ≡ is_shown b
  may_be_shown n e = e ∙ simp (ne_eqb _ _ n)

module _ {b : ℕ} {r : Bool} {buffer after : List ℕ} {at behind : ℕ} where
  pub shown_itself : r ≡ true → r ≡ is_shown b → Clipped buffer at (b ∷ []) behind after → Clipped buffer at (byte_shown b) behind after
  unfolding byte_shown
  shown_itself is e p = clip_as (simp (sym e ∙ is)) p

  pub shown_braced : {high low : ℕ} → r ≡ false → r ≡ is_shown b → Fits w8 b → high ≡ get_or hex_digits (b / 16 % 16) 0 → low ≡ get_or hex_digits (b % 16 % 16) 0
      → Clipped buffer at (0x7B ∷ high ∷ low ∷ 0x7D ∷ []) behind after → Clipped buffer at (byte_shown b) behind after
  unfolding byte_shown
  shown_braced {high} {low} is e small h l p =
      let d : high ∷ low ∷ [] ≡ hex_byte b = hex_digits_lem small h l in
      clip_as (ap (λ (t : List ℕ). 0x7B ∷ t ++ (0x7D ∷ [])) d ∙ simp (sym e ∙ is)) p

-- ---- the loop over a name

-- of a name i bytes are shown, and the rest is owed
pub record Showing (name : List ℕ) (at : ℕ) (buffer out : List ℕ) (i to : ℕ) : Type 0 where
  pub few : i ≤ length name
  pub owes : Owes buffer at (name_shown name) out to (name_shown (drop i name))

pub showing_start : (name : List ℕ) {at : ℕ} {buffer : List ℕ} → at ≤ length buffer → Showing name at buffer buffer 0 at
showing_start name h = record { few = omega arith; owes = owes_all (name_shown name) h }

module _ {name : List ℕ} {at : ℕ} {buffer out : List ℕ} {i to : ℕ} (k : Showing name at buffer out i to) where
  pub showing_turn : i < length name → {mid : ℕ} {half : List ℕ} → Clipped out to (byte_shown (get_or name i 0)) mid half → Showing name at buffer half (i + 1) mid
  unfolding name_shown
  showing_turn h p =
      record { few = omega arith; owes = owes_less (byte_shown (get_or name i 0)) (name_shown (drop (i + 1) name)) k.owes (rw (here name i h) refl) p }

  pub showing_end : length name ≤ i → Clipped buffer at (name_shown name) to out
  unfolding name_shown
  showing_end h = owes_none k.owes (rw (drop_of_length-le name h))
