-- `disk_why::chain_fault` meets its contract.
-- Assumes nothing.
use Rattle.disk_why.proofs.Faults.{Alone}
use Rattle.disk_why.proofs.chain_fault.Given as goal

abbrev pub invariant-loop-p : goal.invariant-loop-p
invariant-loop-p l = Alone l.disk l.files l.p-index
