-- `word_search::goes_on` meets its contract.
-- Assumes nothing.
use Rattle.word_search.proofs.Comparing.{Going}
use Rattle.word_search.proofs.goes_on.Given as goal

abbrev pub invariant-loop-i : goal.invariant-loop-i
invariant-loop-i l = Going l.word l.text l.i
