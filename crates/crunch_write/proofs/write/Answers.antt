-- `crunch_write::write` meets its contract.
-- Assumes nothing.
use lib.ListN.{length}
use mir.Syntax.{w64}
use mir.Val.{Fits}
use Rattle.crunch_write.proofs.Writing.{room_load, written_start, written_room, written_turn, written_room_end, written_end, written_high, written_low, written_fits, written_same, written_within}
use Rattle.guess.proofs.Texts.{line_high, line_less, line_up}
use native.Mathlib.Omega.{arith}
use Rattle.crunch_write.proofs.write.Goals as goal

pub put_two-to-requires : goal.put_two-to-requires
put_two-to-requires c = search room_load

pub loop-at-init : goal.loop-at-init
loop-at-init c = search written_start

pub overflow_add-address : goal.overflow_add-address
overflow_add-address c = omega (arith, written_high)

pub overflow_sub-address : goal.overflow_sub-address
overflow_sub-address c = search written_low

pub slice_bounds-write_line-count : goal.slice_bounds-write_line-count
slice_bounds-write_line-count c = search written_within

pub slice_bounds-write_line-start : goal.slice_bounds-write_line-start
slice_bounds-write_line-start c = search written_within

pub slice_bounds-line-count : goal.slice_bounds-line-count
slice_bounds-line-count c = search line_up

pub slice_bounds-line-start : goal.slice_bounds-line-start
slice_bounds-line-start c = search line_up

pub slice_bounds-line-end : goal.slice_bounds-line-end
slice_bounds-line-end c = search line_high

pub write_line-to-requires : goal.write_line-to-requires
write_line-to-requires c = (written_high c.loop-at.invariant, written_room c.loop-at.invariant c.next_line-next.ensures c.loop-at-test.true)

pub overflow_add-to : goal.overflow_add-to
overflow_add-to c = let out-fits : Fits w64 (length c.args.out.now) = record { fits = omega arith } in written_fits c.loop-at.invariant c.next_line-next.ensures c.loop-at-test.true c.write_line-to.ensures
    c.put_two-to.ensures out-fits

pub loop-at-smaller : goal.loop-at-smaller
loop-at-smaller c = search line_less

pub loop-at-preserved : goal.loop-at-preserved
loop-at-preserved c = search written_turn

pub put_two-requires : goal.put_two-requires
put_two-requires c = search written_room_end

pub shape_of-out : goal.shape_of-out
shape_of-out c = search written_same

pub returns : goal.returns
returns c = search written_end
