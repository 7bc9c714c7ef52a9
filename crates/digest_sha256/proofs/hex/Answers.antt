-- `digest_sha256::hex` meets its contract.
-- Assumes nothing.
use Rattle.std.proofs.Common.{refl, arith, rules}
use Rattle.digest_sha256.proofs.Bytes.{hex_start, hex_more, spread_all}
use Rattle.digest_sha256.proofs.hex.Goals as goal

pub loop-i-init : goal.loop-i-init
loop-i-init c = (hex_start _ (search rules), search rules)

pub loop-i-preserved : goal.loop-i-preserved
loop-i-preserved c = (search hex_more, search rules)

pub returns : goal.returns
returns c = spread_all (λ x. refl) c.loop-i.invariant.0 (omega arith)
