-- `list_spelling::unit_length` meets its contract: in each arm the unit is known.
-- Assumes nothing.
use Rattle.list_spelling.proofs.Spelling.{filled, emptied, long_as, long_of, token_text_lem, token35_text, pair_word, char_length, pair_length, lone_length, remarked_length}
use Rattle.list_spelling.proofs.unit_length.Goals as goal

pub returns-else-is_empty : goal.returns-else-is_empty
returns-else-is_empty c = search (long_as, pair_word, filled)

pub returns-in-Char : goal.returns-in-Char
returns-in-Char c = search char_length

pub returns-in-Token : goal.returns-in-Token
returns-in-Token c = search (long_of, token_text_lem)

pub returns-in-Token35 : goal.returns-in-Token35
returns-in-Token35 c = search (long_of, token35_text)

pub returns-then-is_empty : goal.returns-then-is_empty
returns-then-is_empty c = search (pair_length, emptied)

pub returns-in-Lone : goal.returns-in-Lone
returns-in-Lone c = search lone_length

pub returns-in-Remarked : goal.returns-in-Remarked
returns-in-Remarked c = search remarked_length
