-- `editor_strange_bytes::inner_behind` meets its contract.
-- Assumes nothing.
use Rattle.std.proofs.Common.{rules, tests, ◌∙◌, take, drop}
use Rattle.std.proofs.lemmas.Iterator.{YieldsList-from_slice, YieldsList-from_take}
use Rattle.std.proofs.lemmas.Iterator.Adapters.{YieldsList-from_skip}
use Rattle.std.proofs.lemmas.Iterator.Consumers.{count_from_yields_List}
use Rattle.std.proofs.lemmas.Iterator.Search.{YieldsList-from_take_while}
use Rattle.std.proofs.lemmas.List.Folds.{length-prefix_len}
use Rattle.editor_strange_bytes.specs.Foreign.{is_inner}
use Rattle.editor_strange_bytes.proofs.Knowing.{behind_counted}
use Rattle.editor_strange_bytes.proofs.inner_behind.Goals as goal

pub returns : goal.returns
returns c =
    count_from_yields_List c.take_while.result _ c.count.ensures.ran
    (YieldsList-from_take_while _ is_inner
    (YieldsList-from_take 3 (YieldsList-from_skip 1 (YieldsList-from_slice c.args.text.now (cc)) (cc)) (cc))
    c.take_while.ensures.closure c.take_while.ensures.done (λ x b q k. search (rules, tests)))
    ∙ length-prefix_len is_inner (take 3 (drop 1 c.args.text.now)) ∙ behind_counted c.args.text.now
