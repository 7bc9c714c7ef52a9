-- `count_tokens::token_of` meets its contract. A pair's two goals are left to the lemmas that src/lib.rt names.
-- Assumes nothing.
use Rattle.count_tokens.proofs.UnitTokens.{char_none, token_itself, token35_none, lone_none, remarked_none}
use Rattle.count_tokens.proofs.token_of.Goals as goal

pub returns-in-Char : goal.returns-in-Char
returns-in-Char c = search char_none

pub returns-in-Token : goal.returns-in-Token
returns-in-Token c = search token_itself

pub returns-in-Token35 : goal.returns-in-Token35
returns-in-Token35 c = search token35_none

pub returns-in-Lone : goal.returns-in-Lone
returns-in-Lone c = search lone_none

pub returns-in-Remarked : goal.returns-in-Remarked
returns-in-Remarked c = search remarked_none
