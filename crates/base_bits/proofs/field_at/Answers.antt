-- `base_bits::field_at` meets its contract.
-- Assumes nothing.
use native.Mathlib.Omega.{arith}
use Rattle.base_bits.proofs.Reading.{read_start, read_turn, read_end}
use Rattle.base_bits.proofs.field_at.Goals as goal

pub loop-k-init : goal.loop-k-init
loop-k-init c = search read_start

pub overflow_mul-value : goal.overflow_mul-value
overflow_mul-value c = omega arith

pub bit_at-requires : goal.bit_at-requires
bit_at-requires c = omega arith

pub overflow_add-value : goal.overflow_add-value
overflow_add-value c = omega arith

pub loop-k-preserved : goal.loop-k-preserved
loop-k-preserved c = search read_turn

pub returns : goal.returns
returns c = search read_end
