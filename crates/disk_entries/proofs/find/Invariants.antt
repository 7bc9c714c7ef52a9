-- `disk_entries::find` meets its contract.
-- Assumes nothing.
use Rattle.disk_rules.specs.Entries.{is_named}
use Rattle.disk_entries.proofs.Finding.{Seeking}
use Rattle.disk_entries.proofs.find.Given as goal

abbrev pub invariant-loop-p : goal.invariant-loop-p
invariant-loop-p l = Seeking (is_named l.disk l.name) l.entries l.p-index
