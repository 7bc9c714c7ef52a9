-- `disk_any::entry_at` meets its contract.
-- Assumes nothing.
use Rattle.disk_any.proofs.Answers.{on_within, on_entry, off_entry}
use Rattle.disk_any.proofs.entry_at.Goals as goal

pub described-requires : goal.described-requires
described-requires c = search on_within

pub returns-in-Some : goal.returns-in-Some
returns-in-Some c = search on_entry

pub returns-in-None : goal.returns-in-None
returns-in-None c = search off_entry
