-- `disk_why::entry_fault` meets its contract.
-- Assumes nothing.
use Rattle.disk_why.proofs.Faults.{Testing}
use Rattle.disk_why.proofs.entry_fault.Given as goal

abbrev pub invariant-loop-i : goal.invariant-loop-i
invariant-loop-i l = Testing l.disk l.files l.i
