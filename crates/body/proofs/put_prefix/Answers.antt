-- `body::put_prefix` meets its contract.
-- Assumes nothing.
use Rattle.body.proofs.Writing.{prefix_room, prefix_put, prefix_none}
use Rattle.body.proofs.put_prefix.Goals as goal

pub bounds-out-n : goal.bounds-out-n
bounds-out-n c = search prefix_room

pub returns-then-prefixed : goal.returns-then-prefixed
returns-then-prefixed c = search prefix_put

pub returns : goal.returns
returns c = search prefix_none
