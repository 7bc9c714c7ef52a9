-- `base_bits::put_bit` meets its contract.
-- Assumes nothing.
use native.Mathlib.Omega.{arith}
use Rattle.base_bits.proofs.Pens.{value_low, bit_full, bit_more}
use Rattle.base_bits.proofs.put_bit.Goals as goal

pub overflow_mul-value : goal.overflow_mul-value
overflow_mul-value c = omega (arith, value_low)

pub overflow_add-value : goal.overflow_add-value
overflow_add-value c = omega (arith, value_low)

pub returns-then-pen-eq7 : goal.returns-then-pen-eq7
returns-then-pen-eq7 c = search bit_full

pub returns : goal.returns
returns c = search (bit_more, c.if-pen-eq7.false)
