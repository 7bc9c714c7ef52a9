-- `word_tables::spellings::word_bytes` meets its contract: the stored bytes are compared with those of the lists, from end to end.
-- Assumes nothing.
use mathlib.Core.Path.{refl}
use Rattle.word_tables.specs.StoredHelpers.{word_bytes}
use Rattle.word_tables.proofs.spellings.word_bytes.Goals as goal

pub returns : goal.returns
unfolding word_bytes
returns c = refl
