-- `count_images::tallies::count_body` meets its contract.
-- Assumes nothing.
use Rattle.image_units.proofs.Walking.{unit_nearer}
use Rattle.count_images.proofs.Bodies.{body_start, body_room, body_place, body_turn, body_end_lem}
use Rattle.count_images.proofs.tallies.count_body.Goals as goal

pub loop-i-init : goal.loop-i-init
loop-i-init c = search body_start

pub count_unit-requires : goal.count_unit-requires
count_unit-requires c = search body_room

pub overflow_add-i : goal.overflow_add-i
overflow_add-i c = search body_place

pub loop-i-smaller : goal.loop-i-smaller
loop-i-smaller c = search unit_nearer

pub loop-i-preserved : goal.loop-i-preserved
loop-i-preserved c = search body_turn

pub returns : goal.returns
returns c = search body_end_lem
