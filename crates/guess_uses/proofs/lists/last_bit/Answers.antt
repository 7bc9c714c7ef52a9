-- `guess_uses::lists::last_bit` meets its contract.
-- Assumes nothing.
use Rattle.guess_uses.proofs.Bits.{last_none, last_some}
use Rattle.guess_uses.proofs.lists.last_bit.Goals as goal

pub returns-then-count-gt0 : goal.returns-then-count-gt0
returns-then-count-gt0 c = search (last_some, c.if-count-gt0.true)

pub returns-else-count-gt0 : goal.returns-else-count-gt0
returns-else-count-gt0 c = search (last_none, c.if-count-gt0.false)
