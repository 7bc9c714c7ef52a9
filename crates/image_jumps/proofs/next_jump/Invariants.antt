-- `image_jumps::next_jump` meets its contract.
-- Assumes nothing.
use Rattle.image_jumps.specs.JumpHelpers.{distance}
use Rattle.image_jumps.proofs.Stepping.{Onwards}
use Rattle.image_jumps.proofs.next_jump.Given as goal

abbrev pub invariant-loop-cursor : goal.invariant-loop-cursor
invariant-loop-cursor l = Onwards l.body l.initial.cursor l.cursor

abbrev pub decreases-loop-cursor : goal.decreases-loop-cursor
decreases-loop-cursor l = distance l.body l.cursor
