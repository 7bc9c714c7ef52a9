-- `say_put::put_one` meets its contract.
-- Assumes nothing.
use Rattle.say_put.proofs.Clipping.{one_full, one_put}
use Rattle.say_put.proofs.put_one.Goals as goal

pub returns-then-at-out : goal.returns-then-at-out
returns-then-at-out c = search one_full

pub returns : goal.returns
returns c = search one_put
