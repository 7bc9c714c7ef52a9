-- `body::zero::writes_zero` meets its contract.
-- Assumes nothing.
use Rattle.body.proofs.Zeros.{writes_none, writes_some}
use Rattle.body.proofs.zero.writes_zero.Goals as goal

pub returns-then-m-gt0 : goal.returns-then-m-gt0
returns-then-m-gt0 c = search writes_some

pub returns-else-m-gt0 : goal.returns-else-m-gt0
returns-else-m-gt0 c = search writes_none
