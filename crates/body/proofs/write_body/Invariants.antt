-- `body::write_body` meets its contract.
-- Assumes nothing.
use Prim.Native.Nat.{◌-◌}
use lib.ListN.{length}
use Rattle.body_rules.specs.Lexicon.{lexicon}
use Rattle.body.proofs.Writing.{Owed}
use Rattle.body_steps.specs.BraceHelpers.{Spans}
use Rattle.body.proofs.write_body.Given as goal

abbrev pub invariant-loop-at : goal.invariant-loop-at
invariant-loop-at l = Owed (lexicon l.sets) l.text l.initial.out l.mode l.out l.n l.at × Spans l.text l.at l.span

abbrev pub decreases-loop-at : goal.decreases-loop-at
decreases-loop-at l = length l.text - l.at
