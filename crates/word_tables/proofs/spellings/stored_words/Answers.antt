-- `word_tables::spellings::stored_words` meets its contract: the stored tables are compared with those of the lists, from end to end.
-- Assumes nothing.
use mathlib.Core.Path.{refl}
use Rattle.word_tables.specs.StoredHelpers.{word_bytes, word_index}
use Rattle.word_tables.proofs.Laid.{words_spelt}
use Rattle.word_tables.proofs.spellings.stored_words.Goals as goal

pub invariant_of-result : goal.invariant_of-result
unfolding word_bytes word_index
invariant_of-result c = record { spelt = words_spelt refl refl }

pub returns-clause-bytes : goal.returns-clause-bytes
unfolding word_bytes
returns-clause-bytes c = refl

pub returns-clause-index : goal.returns-clause-index
unfolding word_index
returns-clause-index c = refl
