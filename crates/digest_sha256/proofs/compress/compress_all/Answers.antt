-- `digest_sha256::compress::compress_all` meets its contract.
-- Assumes nothing.
use Rattle.std.proofs.Common.{arith, length-drop, length-take}
use Rattle.digest_sha256.proofs.Blocks.{hashing_start, hashing_turn, hashing_end}
use Rattle.digest_sha256.proofs.compress.compress_all.Goals as goal

pub loop-i-init : goal.loop-i-init
loop-i-init c = search hashing_start

pub compress-v-requires : goal.compress-v-requires
compress-v-requires c = simp (length-take, length-drop) (omega arith)

pub loop-i-preserved : goal.loop-i-preserved
loop-i-preserved c = search hashing_turn

pub returns : goal.returns
returns c = search hashing_end
