-- `list_texts::is_text_of` meets its contract: of CC to FE the text is the digits, of any other byte its word.
-- Assumes nothing.
use Rattle.std.proofs.Common.{arith}
use Rattle.std.proofs.lemmas.Bool.Decides.{nat_tests}
use Rattle.base_ascii.specs.Bytes.{between}
use Rattle.list_texts.specs.TextsHelpers.{listed_word}
use Rattle.list_texts.proofs.Made.{digits_text}
use Rattle.list_texts.proofs.is_text_of.Goals as goal

pub returns-in-204-to-254 : goal.returns-in-204-to-254
returns-in-204-to-254 c = grind (arith, digits_text)

pub returns-in_default : goal.returns-in_default
unfolding listed_word between
returns-in_default c = grind (arith, nat_tests)
