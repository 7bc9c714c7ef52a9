-- `list_spelling::tsb_word` meets its contract.
-- Assumes nothing.
use Rattle.list_spelling.proofs.Spelling.{no_word, a_word}
use Rattle.list_spelling.proofs.tsb_word.Goals as goal

pub returns-then-id-lt128 : goal.returns-then-id-lt128
returns-then-id-lt128 c = search a_word

pub returns-else-id-lt128 : goal.returns-else-id-lt128
returns-else-id-lt128 c = search no_word
