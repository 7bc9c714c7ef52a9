-- `text_lines::behind_blanks` meets its contract.
-- Assumes nothing.
use Prim.Native.Nat.{◌-◌}
use lib.ListN.{length}
use Rattle.base_ascii.specs.Search.{is_blank, front}
use Rattle.base_ascii.proofs.Searching.{Onward}
use Rattle.text_lines.proofs.behind_blanks.Given as goal

abbrev pub invariant-loop-i : goal.invariant-loop-i
invariant-loop-i l = Onward (front is_blank) l.text l.from l.i

abbrev pub decreases-loop-i : goal.decreases-loop-i
decreases-loop-i l = length l.text - l.i
