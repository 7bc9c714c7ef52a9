-- `disk_entries::trace_all` meets its contract.
-- Assumes nothing.
use Rattle.disk_entries.proofs.Following.{Following}
use Rattle.disk_entries.proofs.trace_all.Given as goal

abbrev pub invariant-loop-p : goal.invariant-loop-p
invariant-loop-p l = Following l.disk l.entries l.initial.log l.log l.at l.p-index
