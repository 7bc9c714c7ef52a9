-- `digest_sha256::compress::first_words` meets its contract.
-- Assumes nothing.
use Rattle.std.proofs.Common.{arith}
use Rattle.digest_sha256.proofs.Schedule.{none_filled, word_filled, words_filled}
use Rattle.digest_sha256.proofs.compress.first_words.Goals as goal

pub loop-t-init : goal.loop-t-init
loop-t-init c = (none_filled _, omega arith)

pub loop-t-preserved : goal.loop-t-preserved
loop-t-preserved c = (search word_filled, omega arith)

pub returns : goal.returns
returns c = search words_filled
