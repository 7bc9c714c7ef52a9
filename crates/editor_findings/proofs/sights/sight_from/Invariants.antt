-- `editor_findings::sights::sight_from` meets its contract.
-- Assumes nothing.
use Prim.Native.Nat.{◌-◌}
use lib.ListN.{length}
use Rattle.body_steps.specs.BraceHelpers.{Spans}
use Rattle.editor_findings.proofs.Walking.{Walked, spot_at}
use Rattle.editor_findings.proofs.sights.sight_from.Given as goal

abbrev pub invariant-loop-stand : goal.invariant-loop-stand
invariant-loop-stand l = Walked l.sets l.text (spot_at l.initial.stand.mode l.initial.stand.at) l.stand.mode l.stand.at × Spans l.text l.stand.at l.stand.span

abbrev pub decreases-loop-stand : goal.decreases-loop-stand
decreases-loop-stand l = length l.text - l.stand.at
