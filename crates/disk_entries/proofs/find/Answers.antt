-- `disk_entries::find` meets its contract.
-- Assumes nothing.
use Rattle.disk_entries.proofs.Finding.{seek_start, seek_found, seek_turn, seek_end, entry_in_lem}
use Rattle.disk_entries.proofs.find.Goals as goal

pub loop-p-init : goal.loop-p-init
loop-p-init c = seek_start _ _

pub is_named-requires : goal.is_named-requires
is_named-requires c = search entry_in_lem

pub returns-then-is_named : goal.returns-then-is_named
returns-then-is_named c = search seek_found

pub loop-p-preserved : goal.loop-p-preserved
loop-p-preserved c = search seek_turn

pub returns : goal.returns
returns c = search seek_end
