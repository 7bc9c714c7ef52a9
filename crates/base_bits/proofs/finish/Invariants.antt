-- `base_bits::finish` meets its contract.
-- Assumes nothing.
use Prim.Native.Nat.{◌-◌, ◌%◌}
use Rattle.base_bits.proofs.Pens.{Closing}
use Rattle.base_bits.proofs.finish.Given as goal

abbrev pub invariant-loop-pen : goal.invariant-loop-pen
invariant-loop-pen l = Closing l.initial.out l.initial.pen l.out l.pen

abbrev pub decreases-loop-pen : goal.decreases-loop-pen
decreases-loop-pen l = (8 - l.pen.count) % 8
