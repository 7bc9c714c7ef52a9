-- `guess::resolve::text_evidence` meets its contract.
-- Assumes nothing.
use Prim.Native.Nat.{◌-◌}
use lib.ListN.{length}
use Rattle.guess.specs.Guess.{evidence}
use Rattle.guess.proofs.Texts.{Unproved}
use Rattle.guess.proofs.resolve.text_evidence.Given as goal

abbrev pub invariant-loop-at : goal.invariant-loop-at
invariant-loop-at l = Unproved l.rule l.text (evidence l.rule l.text) l.at

abbrev pub decreases-loop-at : goal.decreases-loop-at
decreases-loop-at l = length l.text - l.at
