-- `say_put::put_decimal` meets its contract.
-- Assumes nothing.
use Rattle.say_put.proofs.Clipping.{clip_long}
use Rattle.say_put.proofs.Spelling.{spelt_put}
use Rattle.say_put.proofs.put_decimal.Goals as goal

pub returns : goal.returns
returns c = search spelt_put

pub shape_of-out : goal.shape_of-out
shape_of-out c = clip_long (returns c)
