-- `word_match::match_live` meets its contract: the loop goes from one word that the text begins with to the next.
-- Assumes nothing.
use Prim.Native.Nat.{◌-◌}
use Rattle.word_match.proofs.Living.{Living}
use Rattle.word_match.proofs.match_live.Given as goal

abbrev pub invariant-loop-i : goal.invariant-loop-i
invariant-loop-i l = Living l.sets l.text l.words.bytes.now l.words.index.now l.i

abbrev pub decreases-loop-i : goal.decreases-loop-i
decreases-loop-i l = l.to - l.i
