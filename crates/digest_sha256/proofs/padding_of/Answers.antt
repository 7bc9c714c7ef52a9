-- `digest_sha256::padding_of` meets its contract.
-- Assumes nothing.
use Rattle.std.proofs.Common.{◌∙◌, arith}
use Rattle.digest_sha256.proofs.Bytes.{pads_made}
use Rattle.digest_sha256.proofs.padding_of.Goals as goal

pub returns : goal.returns
returns c = pads_made _ (c.copy_from_slice.ensures.after ∙ c.to_be_bytes.ensures) (omega arith)
