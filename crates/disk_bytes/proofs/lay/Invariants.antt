-- `disk_bytes::lay` meets its contract.
-- Assumes nothing.
use Rattle.disk_bytes.proofs.Laying.{Laying}
use Rattle.disk_bytes.proofs.lay.Given as goal

abbrev pub invariant-loop-i : goal.invariant-loop-i
invariant-loop-i l = Laying l.initial.disk l.list l.image l.disk l.i
