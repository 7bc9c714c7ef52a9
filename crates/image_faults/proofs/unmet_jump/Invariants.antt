-- `image_faults::unmet_jump` meets its contract.
-- Assumes nothing.
use Rattle.image_jumps.specs.JumpHelpers.{distance}
use Rattle.image_faults.proofs.Unmet.{UnmetAhead}
use Rattle.image_faults.proofs.unmet_jump.Given as goal

abbrev pub invariant-loop-jump : goal.invariant-loop-jump
invariant-loop-jump l = UnmetAhead l.marked l.body l.initial.cursor l.cursor

abbrev pub decreases-loop-jump : goal.decreases-loop-jump
decreases-loop-jump l = distance l.body l.cursor
