-- `guess::resolve::text_names` meets its contract.
-- Assumes nothing.
use Prim.Native.Nat.{◌-◌}
use lib.ListN.{length}
use Rattle.text_lines.specs.TextLines.{text_lines}
use Rattle.guess.specs.Guess.{all_names}
use Rattle.guess.proofs.Texts.{Gathered}
use Rattle.guess.proofs.resolve.text_names.Given as goal

abbrev pub invariant-loop-at : goal.invariant-loop-at
invariant-loop-at l = Gathered l.rule l.text (all_names (text_lines l.rule l.text) l.initial.found) (length l.initial.found) l.found l.at

abbrev pub decreases-loop-at : goal.decreases-loop-at
decreases-loop-at l = length l.text - l.at
