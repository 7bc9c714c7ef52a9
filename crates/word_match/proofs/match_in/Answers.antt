-- `word_match::match_in` meets its contract.
-- Assumes nothing.
use Rattle.word_match.proofs.Storage.{match_stored, match_held, match_found, match_none}
use Rattle.word_match.proofs.match_in.Goals as goal

pub first_passing-i-requires : goal.first_passing-i-requires
first_passing-i-requires c = search match_stored

pub word_found-requires : goal.word_found-requires
word_found-requires c = search match_held

pub returns-then-i-group : goal.returns-then-i-group
returns-then-i-group c = search match_found

pub returns-else-i-group : goal.returns-else-i-group
returns-else-i-group c = search match_none
