-- `digest_sha256::compress::schedule` meets its contract.
-- Assumes nothing.
use Rattle.std.proofs.Common.{arith}
use Rattle.digest_sha256.proofs.Schedule.{next_filled, all_filled}
use Rattle.digest_sha256.proofs.compress.schedule.Goals as goal

pub loop-t-preserved : goal.loop-t-preserved
loop-t-preserved c = (search next_filled, omega arith)

pub returns : goal.returns
returns c = search all_filled
