-- `image_index::put_jumps` meets its contract.
-- Assumes nothing.
use Rattle.base_bits.proofs.Pens.{drawn_same}
use Rattle.base_refusals.proofs.Tight.{inner}
use Rattle.image_index.proofs.Putting.{jumps_start, jumps_runs, jumps_within, jumps_less, place_fits, jumps_ready, jumps_turn, jumps_end, jumps_fault}
use Rattle.image_index.proofs.put_jumps.Goals as goal

pub loop-line-init : goal.loop-line-init
loop-line-init c = search jumps_start

pub overflow_add-place : goal.overflow_add-place
overflow_add-place c = place_fits c.loop-line.invariant c.step.ensures (inner c.in-Ok-Some.is c.in-Ok-Some.field-0-is)

pub slice_bounds-put_body-count : goal.slice_bounds-put_body-count
slice_bounds-put_body-count c = search (jumps_runs, inner)

pub slice_bounds-put_body-start : goal.slice_bounds-put_body-start
slice_bounds-put_body-start c = search (jumps_runs, inner)

pub slice_bounds-put_body-end : goal.slice_bounds-put_body-end
slice_bounds-put_body-end c = search (jumps_within, inner)

pub put_body-pen-requires : goal.put_body-pen-requires
put_body-pen-requires c = search (jumps_ready, inner)

pub loop-line-smaller : goal.loop-line-smaller
loop-line-smaller c = search (jumps_less, inner)

pub loop-line-preserved : goal.loop-line-preserved
loop-line-preserved c = search (jumps_turn, inner)

pub returns-in_default : goal.returns-in_default
returns-in_default c = search (jumps_end, inner)

pub shape_of-out-in_default : goal.shape_of-out-in_default
shape_of-out-in_default c = drawn_same _ _ _ (returns-in_default c)

pub returns-in_default-2 : goal.returns-in_default-2
returns-in_default-2 c = search jumps_fault

pub shape_of-out-in_default-2 : goal.shape_of-out-in_default-2
shape_of-out-in_default-2 c = drawn_same _ _ _ (returns-in_default-2 c)
