-- `list_lines::put_body` meets its contract.
-- Assumes nothing.
use native.Mathlib.Omega.{arith}
use Rattle.image_units.proofs.Walking.{unit_nearer}
use Rattle.list_lines.proofs.Progress.{written_start, written_room, written_place, written_turn, written_itself, itself_room, written_end, written_long}
use Rattle.list_lines.proofs.put_body.Goals as goal

pub loop-i-init : goal.loop-i-init
loop-i-init c = search written_start

pub bounds-out-to : goal.bounds-out-to
bounds-out-to c = search itself_room

pub overflow_add-to : goal.overflow_add-to
overflow_add-to c = omega (arith, bounds-out-to c)

pub loop-i-preserved-then-lists_as_itself : goal.loop-i-preserved-then-lists_as_itself
loop-i-preserved-then-lists_as_itself c = search written_itself

pub put_unit-to-requires : goal.put_unit-to-requires
put_unit-to-requires c = search written_room

pub overflow_add-i-else-lists_as_itself : goal.overflow_add-i-else-lists_as_itself
overflow_add-i-else-lists_as_itself c = search written_place

pub loop-i-smaller : goal.loop-i-smaller
loop-i-smaller c = search unit_nearer

pub loop-i-preserved : goal.loop-i-preserved
loop-i-preserved c = search written_turn

pub shape_of-out : goal.shape_of-out
shape_of-out c = search written_long

pub returns : goal.returns
returns c = search written_end
