-- `base_bits::put_field` meets its contract.
-- Assumes nothing.
use native.Mathlib.Omega.{arith}
use Rattle.base_bits.proofs.Pens.{drawing_start, bit_place, drawing_turn, drawing_end, drawn_same}
use Rattle.base_bits.proofs.put_field.Goals as goal

pub loop-left-init : goal.loop-left-init
loop-left-init c = search drawing_start

pub bit_of-requires : goal.bit_of-requires
bit_of-requires c = omega arith

pub put_bit-pen-requires : goal.put_bit-pen-requires
put_bit-pen-requires c = search bit_place

pub loop-left-preserved : goal.loop-left-preserved
loop-left-preserved c = search drawing_turn

pub returns : goal.returns
returns c = search drawing_end

pub shape_of-out : goal.shape_of-out
shape_of-out c = drawn_same _ _ _ (returns c)
