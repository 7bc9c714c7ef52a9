-- `image_faults::zero_fault` meets its contract.
-- Assumes nothing.
use Rattle.image_faults.proofs.Telling.{line_low, line_from_lem, zero_fits, zero_told, zero_none}
use native.Mathlib.Omega.{arith}
use Rattle.image_faults.proofs.zero_fault.Goals as goal

pub overflow_add-zero : goal.overflow_add-zero
overflow_add-zero c = search zero_fits

pub overflow_add-address : goal.overflow_add-address
overflow_add-address c = omega (arith, line_low)

pub overflow_sub-address : goal.overflow_sub-address
overflow_sub-address c = omega (arith, line_from_lem)

pub returns-then-zero-line : goal.returns-then-zero-line
returns-then-zero-line c = search zero_told

pub returns : goal.returns
returns c = search zero_none
