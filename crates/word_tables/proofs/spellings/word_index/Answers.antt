-- `word_tables::spellings::word_index` meets its contract: the stored index is compared with that of the lists, from end to end.
-- Assumes nothing.
use mathlib.Core.Path.{refl}
use Rattle.word_tables.specs.StoredHelpers.{word_index}
use Rattle.word_tables.proofs.spellings.word_index.Goals as goal

pub returns : goal.returns
unfolding word_index
returns c = refl
