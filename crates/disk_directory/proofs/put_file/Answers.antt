-- `disk_directory::put_file` meets its contract.
-- Assumes nothing.
use Rattle.disk_directory.proofs.Lining.{entry_on, entry_room, line_put}
use borrow.Author.Rules.{rules}
use Rattle.disk_directory.proofs.put_file.Goals as goal

pub trace_entry-traced-requires : goal.trace_entry-traced-requires
trace_entry-traced-requires c = search (rules, entry_on)

pub name_at-requires : goal.name_at-requires
name_at-requires c = search entry_room

pub returns : goal.returns
returns c = search line_put
