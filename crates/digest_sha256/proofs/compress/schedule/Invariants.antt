-- `digest_sha256::compress::schedule` meets its contract.
-- Assumes nothing.
use Rattle.std.proofs.Common.{◌≤◌, take}
use Rattle.digest_sha256.specs.StepHelpers.{Filled}
use Rattle.digest_sha256.proofs.compress.schedule.Given as goal

abbrev pub invariant-loop-t : goal.invariant-loop-t
invariant-loop-t l = Filled (take 64 l.block) l.t l.w × ((16 ≤ l.t) × (l.t ≤ 64))
