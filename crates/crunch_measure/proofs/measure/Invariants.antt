-- `crunch_measure::measure` meets its contract.
-- Assumes nothing.
use Prim.Native.Nat.{◌-◌}
use lib.ListN.{length}
use Rattle.body_rules.specs.Lexicon.{lexicon}
use Rattle.crunch_measure.proofs.Measuring.{MeasuredTo}
use Rattle.crunch_measure.proofs.measure.Given as goal

abbrev pub invariant-loop-at : goal.invariant-loop-at
invariant-loop-at l = MeasuredTo l.options.profile (lexicon l.sets) l.options.load l.place l.text l.at l.k l.least l.address l.count l.found

abbrev pub decreases-loop-at : goal.decreases-loop-at
decreases-loop-at l = length l.text - l.at
