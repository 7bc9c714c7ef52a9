-- `list_stretches::put_run` meets its contract.
-- Assumes nothing.
use native.Mathlib.Omega.{arith}
use Rattle.image_units.proofs.Walking.{unit_nearer}
use Rattle.list_stretches.proofs.Stretches.{stored_start, stored_end, stored_long, stored_full, stored_room, stored_turn, stored_place, itself_place, stored_itself}
use Rattle.list_stretches.proofs.put_run.Goals as goal

pub loop-at-init : goal.loop-at-init
loop-at-init c = search stored_start

pub bounds-out-to : goal.bounds-out-to
bounds-out-to c = search itself_place

pub overflow_add-to : goal.overflow_add-to
overflow_add-to c = omega (arith, bounds-out-to c)

pub loop-at-preserved-then-holds_itself : goal.loop-at-preserved-then-holds_itself
loop-at-preserved-then-holds_itself c = search stored_itself

pub shape_of-out-then-not-fits : goal.shape_of-out-then-not-fits
shape_of-out-then-not-fits c = search stored_long

pub returns-then-not-fits : goal.returns-then-not-fits
returns-then-not-fits c = search stored_full

pub put_unit-to-requires : goal.put_unit-to-requires
put_unit-to-requires c = search stored_room

pub overflow_add-at-else-holds_itself : goal.overflow_add-at-else-holds_itself
overflow_add-at-else-holds_itself c = search stored_place

pub loop-at-smaller : goal.loop-at-smaller
loop-at-smaller c = search unit_nearer

pub loop-at-preserved : goal.loop-at-preserved
loop-at-preserved c = search stored_turn

pub shape_of-out : goal.shape_of-out
shape_of-out c = search stored_long

pub returns : goal.returns
returns c = search stored_end
