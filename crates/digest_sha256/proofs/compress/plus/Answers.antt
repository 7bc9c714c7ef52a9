-- `digest_sha256::compress::plus` meets its contract.
-- Assumes nothing.
use Rattle.digest_sha256.specs.Sha256.{added_words}
use Rattle.digest_sha256.proofs.compress.plus.Goals as goal

pub returns : goal.returns
unfolding added_words
returns c = cc
