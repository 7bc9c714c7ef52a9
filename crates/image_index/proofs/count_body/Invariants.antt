-- `image_index::count_body` meets its contract.
-- Assumes nothing.
use Rattle.image_jumps.specs.JumpHelpers.{distance}
use Rattle.image_index.proofs.Counting.{CountingBody}
use Rattle.image_index.proofs.count_body.Given as goal

abbrev pub invariant-loop-jump : goal.invariant-loop-jump
invariant-loop-jump l = CountingBody l.marked l.body l.n-2 l.n l.cursor

abbrev pub decreases-loop-jump : goal.decreases-loop-jump
decreases-loop-jump l = distance l.body l.cursor
