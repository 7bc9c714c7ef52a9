-- `disk_bytes::measure` meets its contract.
-- Assumes nothing.
use Rattle.disk_bytes.proofs.Taking.{Measuring}
use Rattle.disk_bytes.proofs.measure.Given as goal

abbrev pub invariant-loop-n : goal.invariant-loop-n
invariant-loop-n l = Measuring l.disk l.list l.count l.n-index
