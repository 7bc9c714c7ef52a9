-- `image_rows::places::add_places` meets its contract.
-- Assumes nothing.
use Rattle.base_refusals.proofs.Tight.{inner}
use Rattle.image_readers.proofs.Steps.{found_nearer}
use Rattle.image_rows.proofs.Placing.{placing_start, placing_room, placing_few, placing_turn, placing_end, placing_refused}
use Rattle.image_rows.proofs.places.add_places.Goals as goal

pub loop-line-init : goal.loop-line-init
loop-line-init c = search placing_start

pub add_place-to-requires : goal.add_place-to-requires
add_place-to-requires c = placing_room _ _ _ c.loop-line.invariant (inner c.in-Ok-Some.is c.in-Ok-Some.field-0-is) c.step_by.ensures

pub overflow_add-before : goal.overflow_add-before
overflow_add-before c = placing_few _ _ _ c.loop-line.invariant (inner c.in-Ok-Some.is c.in-Ok-Some.field-0-is) c.step_by.ensures

pub loop-line-smaller : goal.loop-line-smaller
loop-line-smaller c = search (found_nearer, inner)

pub loop-line-preserved : goal.loop-line-preserved
loop-line-preserved c = search (placing_turn, inner)

pub returns-in_default : goal.returns-in_default
returns-in_default c = search (placing_end, inner)

pub shape_of-out-in_default : goal.shape_of-out-in_default
shape_of-out-in_default c = (returns-in_default c).sized

pub returns-in_default-2 : goal.returns-in_default-2
returns-in_default-2 c = search placing_refused

pub shape_of-out-in_default-2 : goal.shape_of-out-in_default-2
shape_of-out-in_default-2 c = (returns-in_default-2 c).sized
