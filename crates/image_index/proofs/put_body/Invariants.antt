-- `image_index::put_body` meets its contract.
-- Assumes nothing.
use Rattle.image_jumps.specs.JumpHelpers.{distance}
use Rattle.image_index.proofs.Putting.{PuttingBody}
use Rattle.image_index.proofs.put_body.Given as goal

abbrev pub invariant-loop-jump : goal.invariant-loop-jump
invariant-loop-jump l = PuttingBody l.marked l.place l.body l.initial.out l.initial.pen l.out l.pen l.cursor

abbrev pub decreases-loop-jump : goal.decreases-loop-jump
decreases-loop-jump l = distance l.body l.cursor
