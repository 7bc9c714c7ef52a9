-- `disk_chains::mark_all` meets its contract.
-- Assumes nothing.
use Rattle.disk_chains.proofs.Marking.{set_start, set_long, set_below, set_turn, set_end}
use Rattle.disk_chains.proofs.mark_all.Goals as goal

pub loop-n-init : goal.loop-n-init
loop-n-init c = search set_start

pub mark-requires : goal.mark-requires
mark-requires c = search (set_long, set_below)

pub loop-n-preserved : goal.loop-n-preserved
loop-n-preserved c = search set_turn

pub returns : goal.returns
returns c = search set_end
