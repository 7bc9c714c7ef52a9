-- `digest_sha256::kept` meets its contract.
-- Assumes nothing.
use Rattle.std.proofs.Common.{refl, rules}
use Rattle.digest_sha256.proofs.Pieces.{kept_holds}
use Rattle.digest_sha256.proofs.kept.Goals as goal

pub returns : goal.returns
returns c = λ m g. kept_holds g (search rules) _ refl c.copied.ensures refl c.requires
