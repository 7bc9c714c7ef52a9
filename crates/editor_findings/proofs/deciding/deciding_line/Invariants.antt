-- `editor_findings::deciding::deciding_line` meets its contract.
-- Assumes nothing.
use Prim.Native.Nat.{◌-◌}
use lib.ListN.{length}
use Rattle.editor_findings.specs.Deciding.{deciding_line}
use Rattle.editor_findings.proofs.Undecided.{Undecided}
use Rattle.editor_findings.proofs.deciding.deciding_line.Given as goal

abbrev pub invariant-loop-at : goal.invariant-loop-at
invariant-loop-at l = Undecided l.rule l.text (deciding_line l.rule l.text) l.at l.k

abbrev pub decreases-loop-at : goal.decreases-loop-at
decreases-loop-at l = length l.text - l.at
