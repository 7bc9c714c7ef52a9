-- `body::longer` meets its contract.
-- Assumes nothing.
use Rattle.body.proofs.Writing.{longer_full, longer_less, prefix_small}
use Rattle.body.proofs.longer.Goals as goal

pub overflow_sub-room : goal.overflow_sub-room
overflow_sub-room c = search prefix_small

pub returns-then-room-count : goal.returns-then-room-count
returns-then-room-count c = search longer_full

pub returns : goal.returns
returns c = search longer_less
