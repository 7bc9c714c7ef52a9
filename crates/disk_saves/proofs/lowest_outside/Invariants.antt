-- `disk_saves::lowest_outside` meets its contract.
-- Assumes nothing.
use Rattle.disk_saves.proofs.Lowest.{Lowest}
use Rattle.disk_saves.proofs.lowest_outside.Given as goal

abbrev pub invariant-loop-n : goal.invariant-loop-n
invariant-loop-n l = Lowest l.sectors l.n-counter
