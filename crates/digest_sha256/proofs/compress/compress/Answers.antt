-- `digest_sha256::compress::compress` meets its contract.
-- Assumes nothing.
use Rattle.digest_sha256.specs.Sha256.{compressed}
use Rattle.digest_sha256.proofs.compress.compress.Goals as goal

pub returns : goal.returns
unfolding compressed
returns c = cc
