-- What the conditions of the third demand are for, by examples, by computation.
-- Assumes nothing.
use Prim.Native.Nat.{ℕ}
use mathlib.Core.Path.{◌≡◌, refl}
use mathlib.Core.Bool.{true, false, not}
use mathlib.Core.List.{List, [], ◌∷◌, map}
use lib.Dec.{eqb}
use lib.ListN.{set}
use Rattle.base_refusals.specs.Answer.{done}
use Rattle.image_readers.specs.NumberedBody.{NumberedBody}
use Rattle.image_readers.specs.Bodies.{bodies_from, bodies_of}
use Rattle.image_readers.specs.Links.{link_step}
use Rattle.image_bytes.specs.ImageBytes.{before_zero}
use Rattle.image_readers.specs.Terminators.{terminator_step}
use Rattle.image_layout.specs.Changed.{number_or_body, in_some}
use Rattle.image_layout.specs.Layout.{image_of}
use Rattle.image_layout.specs.Reads.{lines_at}

abbrev numbered : ℕ → List ℕ → NumberedBody
numbered n bytes = record { number = n; body = bytes }

-- below 0x0100 a link's high byte may be 0, which is the end
pub load_too_low : bodies_of link_step (image_of 0x00F0 (numbered 10 (0x99 ∷ []) ∷ [])) ≡ done []
unfolding image_of bodies_from link_step
load_too_low = refl

-- 10 with the body 99, 20 with the body 80 and 30 with the body 8F at 0801, of which the first body and the last are now of these bytes
abbrev three_lines : ℕ → ℕ → List ℕ
three_lines b c =
    0x01 ∷ 0x08 ∷ 0x07 ∷ 0x08 ∷ 0x0A ∷ 0x00 ∷ b ∷ 0x00 ∷ 0x0D ∷ 0x08 ∷ 0x14 ∷ 0x00 ∷ 0x80 ∷ 0x00 ∷ 0x13 ∷ 0x08 ∷ 0x1E ∷ 0x00 ∷ c ∷ 0x00 ∷ 0x00 ∷ 0x00 ∷ []

abbrev laid_lines : List NumberedBody
laid_lines = numbered 10 (0x99 ∷ []) ∷ numbered 20 (0x80 ∷ []) ∷ numbered 30 (0x8F ∷ []) ∷ []

pub three_lines_lem : image_of 0x0801 laid_lines ≡ three_lines 0x99 0x8F
unfolding image_of
three_lines_lem = refl

-- both changed, the first to a zero: by links the line between reads as before, by terminators it is lost
pub damage_to_zero_by_links : bodies_of link_step (three_lines 0x00 0x41) ≡ done (numbered 10 (0x00 ∷ []) ∷ numbered 20 (0x80 ∷ []) ∷ numbered 30 (0x41 ∷ []) ∷ [])
unfolding bodies_from link_step
damage_to_zero_by_links = refl

pub damage_to_zero_by_terminators : bodies_of terminator_step (three_lines 0x00 0x41) ≡ done (numbered 10 [] ∷ numbered 0x1408 [] ∷ [])
unfolding bodies_from terminator_step before_zero
damage_to_zero_by_terminators = refl

-- a link whose high byte is now 0: by terminators the lines from there on are lost
pub link_of_high_byte_0 : bodies_of terminator_step (set (three_lines 0x99 0x8F) 9 0) ≡ done (numbered 10 (0x99 ∷ []) ∷ [])
unfolding bodies_from terminator_step before_zero
link_of_high_byte_0 = refl

-- where the first line and the last are in the set, the offsets of their numbers and bodies may change: 4 to 6 and 16 to 18
pub first_and_last : map (in_some number_or_body (λ k. not (eqb k 1)) (lines_at 0x0801 2 laid_lines)) (3 ∷ 4 ∷ 6 ∷ 7 ∷ 12 ∷ 15 ∷ 16 ∷ 18 ∷ 19 ∷ [])
    ≡ false ∷ true ∷ true ∷ false ∷ false ∷ false ∷ true ∷ true ∷ false ∷ []
unfolding in_some lines_at
first_and_last = refl
