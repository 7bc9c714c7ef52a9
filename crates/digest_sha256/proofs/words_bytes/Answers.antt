-- `digest_sha256::words_bytes` meets its contract.
-- Assumes nothing.
use Rattle.std.proofs.Common.{refl, ◌∙◌, arith}
use Rattle.digest_sha256.proofs.Bytes.{words_start, words_more, spread_all, spread_long, long_4, word_put, be_bytes}
use Rattle.digest_sha256.proofs.words_bytes.Goals as goal

pub loop-i-init : goal.loop-i-init
loop-i-init c = words_start _ refl

pub loop-i-preserved : goal.loop-i-preserved
loop-i-preserved c = words_more c.loop-i.invariant (omega arith)
    (word_put 4 _ _ _ (c.copy_from_slice.ensures.after ∙ c.to_be_bytes.ensures ∙ be_bytes _) (omega arith) (omega (arith, spread_long)))

pub returns : goal.returns
returns c = spread_all long_4 c.loop-i.invariant (omega arith)
