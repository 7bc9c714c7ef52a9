-- `moldthatch::digests::moldthatch_sha256` meets its contract.
-- Assumes nothing.
use Rattle.moldthatch.proofs.Telling.{tells}
use Rattle.moldthatch.proofs.digests.moldthatch_sha256.Goals as goal

pub returns : goal.returns
returns c = search tells
