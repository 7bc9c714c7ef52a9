-- The text of one byte, held in an array of six.
-- Assumes nothing.
use Prim.Native.Nat.{ℕ, ◌+◌, ◌≤◌}
use mathlib.Core.Path.{◌≡◌, sym, ap, ◌∙◌}
use mathlib.Core.Bool.{Bool, true, false, cond}
use mathlib.Core.List.{List}
use native.Mathlib.Omega.{arith}
use lib.Dec.{eqb}
use lib.ListN.{length, take, drop, replicate}
use lib.Seq.{sets-eq, take-append_seam}
use Rattle.base_ascii.specs.Bytes.{between}
use Rattle.list_bytes.specs.ByteTexts.{hex_byte, byte_text, remark_text}
use Rattle.list_bytes.specs.HeldHelpers.{held}
use Rattle.list_bytes.specs.declared.ByteText.{ByteText}

short : (n : ℕ) (b : Bool) (x y : List ℕ) → length x ≤ n → length y ≤ n → length (cond b x y) ≤ n
short n true x y h k = h
short n false x y h k = k

pub byte_text_short : (b : ℕ) → length (byte_text b) ≤ 6
unfolding byte_text hex_byte
byte_text_short b =
    short 6 (eqb b 0) _ _ (omega arith)
    (short 6 (eqb b 0x0D) _ _ (omega arith)
    (short 6 (between 0x20 0x5F b) _ _ (omega arith)
    (short 6 (eqb b 0x60) _ _ (omega arith)
    (short 6 (between 0xC1 0xDA b) _ _ (omega arith) (omega arith)))))

pub remark_text_short : (b : ℕ) → length (remark_text b) ≤ 6
unfolding remark_text
remark_text_short b = short 6 (between 0x61 0x7A b) _ _ (omega arith) (byte_text_short b)

module _ (s : List ℕ) {t : ByteText} where
  pub held_length : t ≡ held s → t.len ≡ length s
  held_length e = ap (λ (x : ByteText). x.len) e

  module _ (few : length s ≤ 6) (e : t ≡ held s) where
    pub held_text : take t.len t.bytes ≡ s
    held_text =
        ap (λ (x : ByteText). take x.len x.bytes) e
        ∙ ap (take (length s)) (sets-eq s (replicate 6 0) 0 (omega arith))
        ∙ take-append_seam s (drop (0 + length s) (replicate 6 0))

    pub held_few : t.len ≤ 6
    held_few = omega (arith, held_length e)

    pub held_long : t.len ≡ length (take t.len t.bytes)
    held_long = held_length e ∙ ap length (sym held_text)
