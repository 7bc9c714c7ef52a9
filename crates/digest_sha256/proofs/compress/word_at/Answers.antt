-- `digest_sha256::compress::word_at` meets its contract.
-- Assumes nothing.
use Rattle.std.proofs.Common.{◌∙◌}
use Rattle.digest_sha256.specs.Sha256.{block_word}
use Rattle.digest_sha256.proofs.Schedule.{be_word}
use Rattle.digest_sha256.proofs.compress.word_at.Goals as goal

pub returns : goal.returns
unfolding block_word
returns c = c.from_be_bytes.ensures ∙ be_word _ _ _ _
