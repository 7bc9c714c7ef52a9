-- `list_texts::word_at` meets its contract: a byte is below 256.
-- Assumes nothing.
use Rattle.std.proofs.Common.{arith, ◌∙◌}
use Rattle.list_texts.proofs.word_at.Goals as goal

pub word_at-requires : goal.word_at-requires
word_at-requires c = c.args.texts.spelt.lies _ (omega arith)

pub returns : goal.returns
returns c = rw c.from.ensures at c.word_at.ensures ∙ c.args.texts.spelt.spells _ (omega arith)
