-- `crunch_write::write` meets its contract.
-- Assumes nothing.
use Prim.Native.Nat.{◌-◌}
use lib.ListN.{length}
use Rattle.body_rules.specs.Lexicon.{lexicon}
use Rattle.crunch_write.proofs.Writing.{Written}
use Rattle.crunch_write.proofs.write.Given as goal

abbrev pub invariant-loop-at : goal.invariant-loop-at
invariant-loop-at l = Written (lexicon l.sets) l.load l.text l.initial.out l.initial.to l.at l.out l.to

abbrev pub decreases-loop-at : goal.decreases-loop-at
decreases-loop-at l = length l.text - l.at
