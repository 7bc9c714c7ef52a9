-- `digest_sha256::digest` meets its contract.
-- Assumes nothing.
use Rattle.digest_sha256.proofs.digest.Goals as goal

pub returns : goal.returns
returns c = c.finish.ensures _ (c.add.ensures _ c.start.ensures)
