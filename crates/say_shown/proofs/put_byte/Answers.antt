-- `say_shown::put_byte` meets its contract.
-- Assumes nothing.
use Rattle.say_put.proofs.Clipping.{clip_long}
use Rattle.say_shown.proofs.Showing.{shows_control, shows_itself}
use Rattle.say_shown.proofs.put_byte.Goals as goal

pub returns-then-is_control : goal.returns-then-is_control
returns-then-is_control c = search shows_control

pub shape_of-out-then-is_control : goal.shape_of-out-then-is_control
shape_of-out-then-is_control c = clip_long (returns-then-is_control c)

pub returns : goal.returns
returns c = search shows_itself

pub shape_of-out : goal.shape_of-out
shape_of-out c = clip_long (returns c)
