-- `digest_sha256::compress::turns` meets its contract.
-- Assumes nothing.
use Rattle.std.proofs.Common.{arith}
use Rattle.digest_sha256.proofs.Turns.{turning_start, turning_turn, turning_end}
use Rattle.digest_sha256.proofs.compress.turns.Goals as goal

pub loop-eighth-init : goal.loop-eighth-init
loop-eighth-init c = turning_start _ _

pub eight_turns-v-requires : goal.eight_turns-v-requires
eight_turns-v-requires c = omega arith

pub loop-eighth-preserved : goal.loop-eighth-preserved
loop-eighth-preserved c = turning_turn c.loop-eighth.invariant c.eight_turns-v.ensures (omega arith) (omega arith)

pub returns : goal.returns
returns c = turning_end c.loop-eighth.invariant (omega arith)
