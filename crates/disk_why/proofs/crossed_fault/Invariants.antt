-- `disk_why::crossed_fault` meets its contract.
-- Assumes nothing.
use Rattle.disk_why.proofs.Faults.{Crossing}
use Rattle.disk_why.proofs.crossed_fault.Given as goal

abbrev pub invariant-loop-p : goal.invariant-loop-p
invariant-loop-p l = Crossing l.disk l.files l.initial.marks l.marks l.p-index
