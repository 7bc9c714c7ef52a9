-- `disk_chains::mark_all` meets its contract.
-- Assumes nothing.
use Rattle.disk_chains.proofs.Marking.{Setting}
use Rattle.disk_chains.proofs.mark_all.Given as goal

abbrev pub invariant-loop-n : goal.invariant-loop-n
invariant-loop-n l = Setting l.initial.disk l.list l.free l.disk l.n-index
