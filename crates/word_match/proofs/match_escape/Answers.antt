-- `word_match::match_escape` meets its contract.
-- Assumes nothing.
use Rattle.word_match.proofs.Storage.{name_found}
use Rattle.word_match.proofs.match_escape.Goals as goal

pub returns : goal.returns
returns c = search name_found
