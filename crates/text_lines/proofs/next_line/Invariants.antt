-- `text_lines::next_line` meets its contract.
-- Assumes nothing.
use Prim.Native.Nat.{◌-◌}
use lib.ListN.{length}
use Rattle.base_ascii.proofs.Searching.{Onward}
use Rattle.text_lines.specs.SplitHelpers.{line_length}
use Rattle.text_lines.proofs.next_line.Given as goal

abbrev pub invariant-loop-i : goal.invariant-loop-i
invariant-loop-i l = Onward (line_length l.rule) l.text l.from l.i

abbrev pub decreases-loop-i : goal.decreases-loop-i
decreases-loop-i l = length l.text - l.i
