-- `digest_sha256::compress::next_word` meets its contract.
-- Assumes nothing.
use Rattle.digest_sha256.specs.Sha256.{next_word}
use Rattle.digest_sha256.proofs.compress.next_word.Goals as goal

pub returns : goal.returns
unfolding next_word
returns c = cc
