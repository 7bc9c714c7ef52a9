-- `list_lines::measure_body` meets its contract.
-- Assumes nothing.
use Rattle.image_units.proofs.Walking.{unit_nearer}
use Rattle.list_lines.proofs.Progress.{counted_start, counted_place, counted_fits, counted_turn, counted_itself, itself_fits, counted_end}
use Rattle.list_lines.proofs.measure_body.Goals as goal

pub loop-i-init : goal.loop-i-init
loop-i-init c = search counted_start

pub overflow_add-n : goal.overflow_add-n
overflow_add-n c = search itself_fits

pub loop-i-preserved-then-lists_as_itself : goal.loop-i-preserved-then-lists_as_itself
loop-i-preserved-then-lists_as_itself c = search counted_itself

pub overflow_add-n-else-lists_as_itself : goal.overflow_add-n-else-lists_as_itself
overflow_add-n-else-lists_as_itself c = search counted_fits

pub overflow_add-i-else-lists_as_itself : goal.overflow_add-i-else-lists_as_itself
overflow_add-i-else-lists_as_itself c = search counted_place

pub loop-i-smaller : goal.loop-i-smaller
loop-i-smaller c = search unit_nearer

pub loop-i-preserved : goal.loop-i-preserved
loop-i-preserved c = search counted_turn

pub returns : goal.returns
returns c = search counted_end
