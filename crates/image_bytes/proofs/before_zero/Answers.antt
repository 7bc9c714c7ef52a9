-- `image_bytes::before_zero` meets its contract.
-- Assumes nothing.
use Rattle.std.proofs.Common.{rules, tests, ◌∙◌, not}
use Rattle.std.specs.Prelude.{eqb}
use Rattle.std.proofs.lemmas.Iterator.{YieldsList-from_slice}
use Rattle.std.proofs.lemmas.Iterator.Consumers.{count_from_yields_List}
use Rattle.std.proofs.lemmas.Iterator.Search.{YieldsList-from_take_while}
use Rattle.std.proofs.lemmas.List.Folds.{length-prefix_len}
use Rattle.image_bytes.proofs.Zeros.{zero_counted}
use Rattle.image_bytes.proofs.before_zero.Goals as goal

pub returns : goal.returns
returns c =
    count_from_yields_List c.take_while.result _ c.count.ensures.ran
    (YieldsList-from_take_while _ (λ b. not (eqb b 0)) (YieldsList-from_slice c.args.bytes.now (cc)) c.take_while.ensures.closure c.take_while.ensures.done (λ x b q k. search (rules, tests)))
    ∙ length-prefix_len (λ b. not (eqb b 0)) c.args.bytes.now ∙ zero_counted c.args.bytes.now
