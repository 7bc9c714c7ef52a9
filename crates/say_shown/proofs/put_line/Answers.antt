-- `say_shown::put_line` meets its contract.
-- Assumes nothing.
use Rattle.say_put.proofs.Clipping.{clip_long}
use Rattle.say_shown.proofs.Showing.{shows_line}
use Rattle.say_shown.proofs.put_line.Goals as goal

pub returns : goal.returns
returns c = search shows_line

pub shape_of-out : goal.shape_of-out
shape_of-out c = clip_long (returns c)
