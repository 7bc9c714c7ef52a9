-- `image_jumps::next_jump` meets its contract.
-- Assumes nothing.
use Rattle.image_jumps.proofs.Stepping.{onwards_start, onwards_turn, next_told, next_last}
use Rattle.image_jumps.proofs.next_jump.Goals as goal

pub loop-cursor-init : goal.loop-cursor-init
loop-cursor-init c = search onwards_start

pub returns-in-Some : goal.returns-in-Some
returns-in-Some c = search next_told

pub loop-cursor-preserved : goal.loop-cursor-preserved
loop-cursor-preserved c = search onwards_turn

pub returns : goal.returns
returns c = search next_last
