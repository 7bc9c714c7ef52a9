-- `digest_sha256::compress::first_words` meets its contract.
-- Assumes nothing.
use Rattle.std.proofs.Common.{◌≤◌, take}
use Rattle.digest_sha256.specs.StepHelpers.{Filled}
use Rattle.digest_sha256.proofs.compress.first_words.Given as goal

abbrev pub invariant-loop-t : goal.invariant-loop-t
invariant-loop-t l = Filled (take 64 l.block) l.t l.w × (l.t ≤ 16)
