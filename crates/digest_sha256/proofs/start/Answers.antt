-- `digest_sha256::start` meets its contract.
-- Assumes nothing.
use Rattle.std.proofs.Common.{refl}
use Rattle.digest_sha256.specs.Sha256.{hashed}
use Rattle.digest_sha256.proofs.start.Goals as goal

pub returns : goal.returns
unfolding hashed
returns c = record { hash = c.initial.ensures; rest = refl; count = refl }
