-- `word_search::first_passing` meets its contract.
-- Assumes nothing.
use Rattle.word_search.proofs.Search.{sought_start, sought_lies, sought_ready, sought_found, sought_turn, sought_end}
use Rattle.word_search.proofs.first_passing.Goals as goal

pub loop-i-init : goal.loop-i-init
loop-i-init c = search sought_start

pub word_at-requires : goal.word_at-requires
word_at-requires c = search sought_lies

pub passes-requires : goal.passes-requires
passes-requires c = search sought_ready

pub returns-then-passes : goal.returns-then-passes
returns-then-passes c = search sought_found

pub loop-i-preserved : goal.loop-i-preserved
loop-i-preserved c = search sought_turn

pub returns : goal.returns
returns c = search sought_end
