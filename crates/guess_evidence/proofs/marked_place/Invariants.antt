-- `guess_evidence::marked_place` meets its contract.
-- Assumes nothing.
use Prim.Native.Nat.{◌-◌}
use lib.ListN.{length}
use Rattle.guess_evidence.specs.Evidence.{deciding_place}
use Rattle.guess_evidence.proofs.Steps.{Scanned}
use Rattle.guess_evidence.proofs.marked_place.Given as goal

abbrev pub invariant-loop-i : goal.invariant-loop-i
invariant-loop-i l = Scanned l.line (deciding_place l.line) l.place l.i

abbrev pub decreases-loop-i : goal.decreases-loop-i
decreases-loop-i l = length l.line - l.i
