-- `text_lines::long_run` meets its contract.
-- Assumes nothing.
use Prim.Native.Nat.{◌-◌, ◌≤◌}
use lib.ListN.{length}
use Rattle.base_ascii.specs.Search.{equals, front}
use Rattle.base_ascii.proofs.Searching.{Onward}
use Rattle.text_lines.proofs.long_run.Given as goal

abbrev pub invariant-loop-i : goal.invariant-loop-i
invariant-loop-i l = (l.i ≤ length l.text) × Onward (front (equals l.b)) l.text l.from l.i

abbrev pub decreases-loop-i : goal.decreases-loop-i
decreases-loop-i l = length l.text - l.i
