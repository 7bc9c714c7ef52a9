-- `disk_why::map_fault` meets its contract.
-- Assumes nothing.
use Rattle.disk_why.specs.Why.{map_fault}
use Rattle.disk_why.proofs.Faults.{map_start, map_found, map_turn, map_end}
use Rattle.disk_why.proofs.map_fault.Goals as goal

pub loop-i-init : goal.loop-i-init
unfolding map_fault
loop-i-init c = map_start _

pub returns-then-not-is_nothing : goal.returns-then-not-is_nothing
returns-then-not-is_nothing c = search map_found

pub loop-i-preserved : goal.loop-i-preserved
loop-i-preserved c = search map_turn

pub returns : goal.returns
returns c = search map_end
