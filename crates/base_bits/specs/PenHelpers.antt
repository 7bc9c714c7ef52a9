-- What the pen's contracts say: a buffer and a pen after bits. Bits.antt has the packing itself; proofs/Packing.antt carries one to the other.
-- Assumes nothing.
use Rattle.std.specs.Prelude.{ℕ, ◌+◌, ◌*◌, ◌^◌, ◌≤◌, ◌<◌, cond, List, [], ◌∷◌, eqb, set}
use Rattle.base_lent.specs.Stores.{Room}
use Rattle.base_bits.specs.Bits.{pack_from}
use Rattle.base_bits.specs.declared.Pen.{Pen}

-- a pen whose byte is not full
pub record Sharp (pen : Pen) : Type 0 where
  pub few : pen.count ≤ 7
  pub small : pen.value < 2 ^ pen.count

-- a pen, and the buffer that it writes
pub record Drawn : Type 0 where
  pub pen : Pen
  pub out : List ℕ

-- one bit more
abbrev pub drawn_bit : List ℕ → Pen → ℕ → Drawn
drawn_bit out pen b =
    cond (eqb pen.count 7)
    (record { pen = record { at = pen.at + 1; value = 0; count = 0 }; out = set out pen.at (2 * pen.value + b) })
    (record { pen = record { at = pen.at; value = 2 * pen.value + b; count = pen.count + 1 }; out = out })

-- bits one behind the other
unfoldable pub drawn : List ℕ → Pen → List ℕ → Drawn
drawn out pen [] = record { pen = pen; out = out }
drawn out pen (b ∷ bs) = let d = drawn_bit out pen b in drawn d.out d.pen bs

-- a pen, and the room for all that it and some bits give
pub record Ready (out : List ℕ) (pen : Pen) (bits : List ℕ) : Type 0 where
  pub sharp : Sharp pen
  pub room : Room out pen.at (pack_from pen.value pen.count bits)
