-- `word_search::word_at` meets its contract.
-- Assumes nothing.
use Rattle.word_search.specs.RunHelpers.{word_of}
use Rattle.word_search.proofs.word_at.Goals as goal

pub returns : goal.returns
unfolding word_of
returns c = cc
