-- `disk_entries::trace_entry` meets its contract.
-- Assumes nothing.
use Rattle.disk_entries.proofs.Following.{entry_to, entry_none}
use Rattle.disk_entries.proofs.trace_entry.Goals as goal

pub returns-in-To : goal.returns-in-To
returns-in-To c = search entry_to

pub returns-in-Last : goal.returns-in-Last
returns-in-Last c = entry_none c.args.disk.now c.args.log.now c.args.p c.args.at c.link_at.ensures c.in-Last.is c.requires.2
