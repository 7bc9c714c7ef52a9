-- `digest_sha256::compress::turn` meets its contract.
-- Assumes nothing.
use Rattle.digest_sha256.specs.Sha256.{turned}
use Rattle.digest_sha256.proofs.compress.turn.Goals as goal

pub returns : goal.returns
unfolding turned
returns c = cc
