-- `disk_ways::follow_entry` meets its contract.
-- Assumes nothing.
use Rattle.disk_ways.proofs.Following.{entry_below, entry_to, entry_none}
use borrow.Author.Rules.{rules}
use Rattle.disk_ways.proofs.follow_entry.Goals as goal

pub follow-requires : goal.follow-requires
follow-requires c = search (rules, entry_below)

pub returns-in-To : goal.returns-in-To
returns-in-To c = search entry_to

pub returns-in-Last : goal.returns-in-Last
returns-in-Last c = entry_none c.args.over c.args.disk.now c.args.log.now c.args.marks.now c.args.p c.tracks_over.ensures c.link_on.ensures c.astray_at.ensures c.in-Last.is
