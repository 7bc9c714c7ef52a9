-- `disk_names::put_name` meets its contract.
-- Assumes nothing.
use Rattle.disk_names.proofs.Showing.{Showing}
use Rattle.disk_names.proofs.put_name.Given as goal

abbrev pub invariant-loop-b : goal.invariant-loop-b
invariant-loop-b l = Showing l.name l.at l.initial.out l.out l.b-index l.to
