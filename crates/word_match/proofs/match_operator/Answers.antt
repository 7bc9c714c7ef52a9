-- `word_match::match_operator` meets its contract.
-- Assumes nothing.
use Rattle.word_match.proofs.Storage.{word_found_lem}
use Rattle.word_match.proofs.match_operator.Goals as goal

pub returns : goal.returns
returns c = search word_found_lem
