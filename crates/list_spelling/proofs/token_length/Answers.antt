-- `list_spelling::token_length` meets its contract.
-- Assumes nothing.
use Rattle.list_texts.proofs.Made.{some_word}
use Rattle.list_spelling.proofs.Spelling.{filled, emptied, long_as, nothing_long, digits_long}
use Rattle.list_spelling.proofs.token_length.Goals as goal

pub returns-then-not-is_empty : goal.returns-then-not-is_empty
returns-then-not-is_empty c = search (long_as, some_word, filled)

pub returns-then-b-lt204 : goal.returns-then-b-lt204
returns-then-b-lt204 c = search (nothing_long, emptied)

pub returns-else-b-lt204 : goal.returns-else-b-lt204
returns-else-b-lt204 c = search (digits_long, emptied)
