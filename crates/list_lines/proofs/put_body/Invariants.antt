-- `list_lines::put_body` meets its contract.
-- Assumes nothing.
use Prim.Native.Nat.{◌-◌}
use lib.ListN.{length}
use Rattle.list_lines.proofs.Progress.{BodyWritten}
use Rattle.list_lines.proofs.put_body.Given as goal

abbrev pub invariant-loop-i : goal.invariant-loop-i
invariant-loop-i l = BodyWritten l.rules l.body l.initial.out l.at l.out l.i l.mode l.to

abbrev pub decreases-loop-i : goal.decreases-loop-i
decreases-loop-i l = length l.body - l.i
