-- `image_jumps::unit_step` meets its contract.
-- Assumes nothing.
use Rattle.image_jumps.proofs.Stepping.{unit_fits, unit_moves}
use Rattle.image_jumps.proofs.unit_step.Goals as goal

pub overflow_add-at : goal.overflow_add-at
overflow_add-at c = search unit_fits

pub returns : goal.returns
returns c = search unit_moves
