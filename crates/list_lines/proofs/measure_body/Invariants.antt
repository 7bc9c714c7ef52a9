-- `list_lines::measure_body` meets its contract.
-- Assumes nothing.
use Prim.Native.Nat.{◌-◌}
use lib.ListN.{length}
use Rattle.list_lines.proofs.Progress.{BodyCounted}
use Rattle.list_lines.proofs.measure_body.Given as goal

abbrev pub invariant-loop-i : goal.invariant-loop-i
invariant-loop-i l = BodyCounted l.rules l.body l.i l.mode l.n

abbrev pub decreases-loop-i : goal.decreases-loop-i
decreases-loop-i l = length l.body - l.i
