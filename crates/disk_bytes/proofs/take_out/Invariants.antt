-- `disk_bytes::take_out` meets its contract.
-- Assumes nothing.
use Rattle.disk_bytes.proofs.Taking.{Taking}
use Rattle.disk_bytes.proofs.take_out.Given as goal

abbrev pub invariant-loop-n : goal.invariant-loop-n
invariant-loop-n l = Taking l.disk l.list l.initial.out l.out l.to l.n-index
