-- `disk_why::file_stop` meets its contract.
-- Assumes nothing.
use Rattle.disk_why.proofs.Faults.{marks_enough, disk_enough}
use borrow.Author.Rules.{rules}
use Rattle.disk_why.proofs.file_stop.Goals as goal

pub follow_entry-followed-requires : goal.follow_entry-followed-requires
follow_entry-followed-requires c = search (rules, marks_enough, disk_enough)
