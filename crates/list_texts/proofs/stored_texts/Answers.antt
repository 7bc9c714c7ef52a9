-- `list_texts::stored_texts` meets its contract: the stored tables are compared with those of the words, from end to end.
-- Assumes nothing.
use mathlib.Core.Path.{refl}
use Rattle.list_texts.proofs.TextTable.{text_bytes, text_starts, texts_spelt}
use Rattle.list_texts.proofs.stored_texts.Goals as goal

pub invariant_of-result : goal.invariant_of-result
unfolding text_bytes text_starts
invariant_of-result c = record { spelt = texts_spelt refl refl }
