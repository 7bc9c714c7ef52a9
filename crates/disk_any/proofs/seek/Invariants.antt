-- `disk_any::seek` meets its contract.
-- Assumes nothing.
use Rattle.disk_any.proofs.Locating.{Seeking}
use Rattle.disk_any.proofs.seek.Given as goal

abbrev pub invariant-loop-next : goal.invariant-loop-next
invariant-loop-next l = Seeking l.disk l.sectors l.end l.place l.left l.next
