-- `base_ascii::is_ascii` meets its contract.
-- Assumes nothing.
use Rattle.std.proofs.Common.{rules, tests, ◌∙◌}
use Rattle.std.specs.Prelude.{nat_lt}
use Rattle.std.proofs.lemmas.Iterator.{YieldsList-from_slice}
use Rattle.std.proofs.lemmas.Iterator.Search.{all_from_yields_List}
use Rattle.base_ascii.proofs.Laws.{ascii_all}
use Rattle.base_ascii.proofs.is_ascii.Goals as goal

pub returns : goal.returns
returns c =
    all_from_yields_List (λ b. nat_lt b 0x80) _ _ _ c.all.ensures.ran (YieldsList-from_slice c.args.s.now (cc)) (λ x b q k. search (rules, tests)) ∙ ascii_all c.args.s.now
