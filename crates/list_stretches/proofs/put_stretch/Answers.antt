-- `list_stretches::put_stretch` meets its contract: the place is known in each arm.
-- Assumes nothing.
use Rattle.list_stretches.proofs.Stretches.{head_fits, stretch_of_over, stretch_of_body, stretch_of_none, stretch_of_number, number_room, number_low}
use Rattle.list_stretches.proofs.put_stretch.Goals as goal

pub overflow_add-places : goal.overflow_add-places
overflow_add-places c = search head_fits

pub returns-then-places-out : goal.returns-then-places-out
returns-then-places-out c = search stretch_of_none

pub put_head-to-requires : goal.put_head-to-requires
put_head-to-requires c = search number_room

pub put_body_stretch-requires : goal.put_body_stretch-requires
put_body_stretch-requires c = search number_low

pub returns-else-places-out : goal.returns-else-places-out
returns-else-places-out c = search stretch_of_number

pub returns-in-Body : goal.returns-in-Body
returns-in-Body c = search stretch_of_body

pub returns-in-Over : goal.returns-in-Over
returns-in-Over c = search stretch_of_over
