-- `word_search::first_passing` meets its contract.
-- Assumes nothing.
use Rattle.word_search.specs.RunHelpers.{passes_at}
use Rattle.word_search.proofs.Search.{Sought}
use Rattle.word_search.proofs.first_passing.Given as goal

abbrev pub invariant-loop-i : goal.invariant-loop-i
invariant-loop-i l = Sought (passes_at l.test l.text l.bytes l.starts) l.initial.i l.section.to l.i
