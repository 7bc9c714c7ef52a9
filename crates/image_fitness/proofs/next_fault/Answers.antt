-- `image_fitness::next_fault` meets its contract.
-- Assumes nothing.
use Rattle.image_fitness.proofs.Moving.{fault_start, fault_told, fault_less, fault_turn, fault_end}
use Rattle.image_fitness.proofs.next_fault.Goals as goal

pub loop-found-init : goal.loop-found-init
loop-found-init c = search fault_start

pub returns-in-Told : goal.returns-in-Told
returns-in-Told c = search fault_told

pub loop-found-smaller : goal.loop-found-smaller
loop-found-smaller c = search fault_less

pub loop-found-preserved : goal.loop-found-preserved
loop-found-preserved c = search fault_turn

pub returns-in-End : goal.returns-in-End
returns-in-End c = search fault_end
