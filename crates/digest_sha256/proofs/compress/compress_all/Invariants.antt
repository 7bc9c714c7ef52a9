-- `digest_sha256::compress::compress_all` meets its contract.
-- Assumes nothing.
use Rattle.digest_sha256.proofs.Blocks.{Hashing}
use Rattle.digest_sha256.proofs.compress.compress_all.Given as goal

abbrev pub invariant-loop-i : goal.invariant-loop-i
invariant-loop-i l = Hashing l.initial.v l.bytes l.v l.i
