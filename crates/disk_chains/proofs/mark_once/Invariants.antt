-- `disk_chains::mark_once` meets its contract.
-- Assumes nothing.
use mathlib.Core.Path.{◌≡◌}
use lib.ListN.{length}
use Rattle.disk_chains.proofs.Marking.{Marking}
use Rattle.disk_chains.proofs.mark_once.Given as goal

abbrev pub invariant-loop-i : goal.invariant-loop-i
invariant-loop-i l = Marking l.list l.marks l.i × (length l.marks ≡ length l.initial.marks)
