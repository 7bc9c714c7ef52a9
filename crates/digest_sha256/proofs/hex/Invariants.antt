-- `digest_sha256::hex` meets its contract.
-- Assumes nothing.
use Rattle.std.proofs.Common.{◌≡◌, length}
use Rattle.digest_sha256.specs.Hex.{hex_pair}
use Rattle.digest_sha256.proofs.Bytes.{Spread}
use Rattle.digest_sha256.proofs.hex.Given as goal

abbrev pub invariant-loop-i : goal.invariant-loop-i
invariant-loop-i l = Spread hex_pair 2 l.digest l.out l.i × (length l.digest ≡ 32)
