-- `disk_entries::entries_good` meets its contract.
-- Assumes nothing.
use Rattle.disk_entries.proofs.Finding.{Testing}
use Rattle.disk_entries.proofs.entries_good.Given as goal

abbrev pub invariant-loop-i : goal.invariant-loop-i
invariant-loop-i l = Testing l.disk l.entries l.i
