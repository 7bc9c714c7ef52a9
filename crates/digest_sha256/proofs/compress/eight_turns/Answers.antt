-- `digest_sha256::compress::eight_turns` meets its contract.
-- Assumes nothing.
use Rattle.std.proofs.Common.{add-zero}
use Rattle.digest_sha256.specs.StepHelpers.{turns_from}
use Rattle.digest_sha256.proofs.compress.eight_turns.Goals as goal

pub returns : goal.returns
unfolding turns_from
returns c = cc (add-zero c.args.t)
