-- `list_texts::word35_at` meets its contract: the words of BASIC 3.5 stand behind the texts of the 256 bytes.
-- Assumes nothing.
use Rattle.std.proofs.Common.{arith}
use Rattle.std.proofs.lemmas.Bool.Decides.{nat_tests}
use Rattle.base_ascii.specs.Bytes.{between}
use Rattle.list_texts.specs.TextsHelpers.{listed_word35}
use Rattle.list_texts.proofs.TextTable.{word35_own}
use Rattle.list_texts.proofs.word35_at.Goals as goal

pub word_at-requires : goal.word_at-requires
word_at-requires c = c.args.texts.spelt.lies _ (omega arith)

pub returns-in-204-to-253 : goal.returns-in-204-to-253
returns-in-204-to-253 c = word35_own c.args.k c.args.texts.spelt (omega arith) (omega arith) c.from.ensures c.word_at.ensures

pub returns-in_default : goal.returns-in_default
unfolding listed_word35 between
returns-in_default c = grind (arith, nat_tests)
