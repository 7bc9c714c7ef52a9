-- `word_match::section_at` meets its contract.
-- Assumes nothing.
use Rattle.word_match.proofs.Storage.{section_read}
use Rattle.word_match.proofs.section_at.Goals as goal

pub returns : goal.returns
returns c = search section_read
