-- `base_ascii::solid_length` meets its contract.
-- Assumes nothing.
use Rattle.std.proofs.Common.{rules, tests, ◌∙◌, ◌≡◌, ap, ◌-◌, length, reverse}
use Rattle.std.specs.List.{prefix_len}
use Rattle.std.proofs.lemmas.Iterator.Adapters.{YieldsList-from_rev_slice}
use Rattle.std.proofs.lemmas.Iterator.Consumers.{count_from_yields_List}
use Rattle.std.proofs.lemmas.Iterator.Search.{YieldsList-from_take_while}
use Rattle.std.proofs.lemmas.List.Folds.{length-prefix_len}
use Rattle.base_ascii.specs.Bytes.{is_space}
use Rattle.base_ascii.proofs.Searching.{end_counted}
use Rattle.base_ascii.proofs.solid_length.Goals as goal

pub returns : goal.returns
returns c =
    let counted : c.count.result ≡ prefix_len is_space (reverse c.args.s.now) = count_from_yields_List c.take_while.result _ c.count.ensures.ran
    (YieldsList-from_take_while _ is_space (YieldsList-from_rev_slice c.args.s.now (cc)) c.take_while.ensures.closure c.take_while.ensures.done (λ x b q k. search (rules, tests)))
    ∙ length-prefix_len is_space (reverse c.args.s.now) in
    ap (λ n. length c.args.s.now - n) counted ∙ end_counted is_space c.args.s.now
