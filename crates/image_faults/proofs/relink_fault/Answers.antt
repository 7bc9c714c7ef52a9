-- `image_faults::relink_fault` meets its contract.
-- Assumes nothing.
use Rattle.base_refusals.proofs.Tight.{inner}
use Rattle.image_faults.proofs.Telling.{relink_same, relink_changed, relink_leaves, relink_endless, relink_refused}
use Rattle.image_faults.proofs.relink_fault.Goals as goal

pub returns-in-Ok-Same : goal.returns-in-Ok-Same
returns-in-Ok-Same c = search (relink_same, inner)

pub returns-in-Ok-Changed : goal.returns-in-Ok-Changed
returns-in-Ok-Changed c = search (relink_changed, inner)

pub returns-in-Ok-Leaves : goal.returns-in-Ok-Leaves
returns-in-Ok-Leaves c = search (relink_leaves, inner)

pub returns-in-Ok-Endless : goal.returns-in-Ok-Endless
returns-in-Ok-Endless c = search (relink_endless, inner)

pub returns-in-Err : goal.returns-in-Err
returns-in-Err c = search relink_refused
