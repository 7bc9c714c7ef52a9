-- `word_match::word_found` meets its contract.
-- Assumes nothing.
use Rattle.word_match.proofs.Storage.{found_read}
use Rattle.word_match.proofs.word_found.Goals as goal

pub returns : goal.returns
returns c = search found_read
