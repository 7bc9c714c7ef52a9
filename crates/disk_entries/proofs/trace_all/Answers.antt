-- `disk_entries::trace_all` meets its contract.
-- Assumes nothing.
use Rattle.disk_entries.proofs.Following.{follow_start, follow_room, follow_in, follow_end, follow_broken, follow_turn}
use borrow.Author.Rules.{rules}
use Rattle.disk_entries.proofs.trace_all.Goals as goal

pub loop-p-init : goal.loop-p-init
loop-p-init c = search follow_start

pub trace_entry-traced-requires : goal.trace_entry-traced-requires
trace_entry-traced-requires c = search (rules, follow_room, follow_in)

pub returns-then-not-traced : goal.returns-then-not-traced
returns-then-not-traced c = search follow_broken

pub loop-p-preserved : goal.loop-p-preserved
loop-p-preserved c = search follow_turn

pub returns : goal.returns
returns c = search follow_end
