-- `disk_entries::entries_that` meets its contract.
-- Assumes nothing.
use Rattle.disk_rules.specs.Entries.{entry_at, is_that}
use Rattle.disk_chains.proofs.Runs.{Picking}
use Rattle.disk_entries.proofs.entries_that.Given as goal

abbrev pub invariant-loop-e : goal.invariant-loop-e
invariant-loop-e l = Picking (entry_at l.sectors) (is_that l.listed l.disk) l.end l.initial.list l.list l.count l.e
