-- `digest_sha256::words_bytes` meets its contract.
-- Assumes nothing.
use Rattle.digest_sha256.specs.Sha256.{big_endian}
use Rattle.digest_sha256.proofs.Bytes.{Spread}
use Rattle.digest_sha256.proofs.words_bytes.Given as goal

abbrev pub invariant-loop-i : goal.invariant-loop-i
invariant-loop-i l = Spread (big_endian 4) 4 l.words l.out l.i
