-- `digest_sha256::compress::turns` meets its contract.
-- Assumes nothing.
use Rattle.std.proofs.Common.{◌*◌}
use Rattle.digest_sha256.proofs.Turns.{Turning}
use Rattle.digest_sha256.proofs.Roots.{table}
use Rattle.digest_sha256.proofs.compress.turns.Given as goal

abbrev pub invariant-loop-eighth : goal.invariant-loop-eighth
invariant-loop-eighth l = Turning l.w l.initial.v table l.v (8 * l.eighth)
