-- `base_bits::put_field` meets its contract.
-- Assumes nothing.
use Rattle.base_bits.proofs.Pens.{Drawing}
use Rattle.base_bits.proofs.put_field.Given as goal

abbrev pub invariant-loop-left : goal.invariant-loop-left
invariant-loop-left l = Drawing l.initial.out l.initial.pen l.width l.value l.out l.pen l.left
