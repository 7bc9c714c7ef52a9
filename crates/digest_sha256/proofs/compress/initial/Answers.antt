-- `digest_sha256::compress::initial` meets its contract.
-- Assumes nothing.
use Rattle.digest_sha256.proofs.Roots.{initial_right}
use Rattle.digest_sha256.proofs.compress.initial.Goals as goal

pub returns : goal.returns
returns c = initial_right
