-- `disk_chains::map_agrees` meets its contract.
-- Assumes nothing.
use Rattle.std.proofs.Common.{rules, tests, ◌∙◌, refl, ◌+◌, ◌/◌, ◌%◌, false, get_or}
use Rattle.std.proofs.lemmas.Iterator.{YieldsList-from_range}
use Rattle.std.proofs.lemmas.Iterator.Search.{all_from_yields_List}
use Rattle.disk_rules.specs.Free.{bit_agrees}
use Rattle.disk_chains.proofs.Mapping.{map_listed}
use Rattle.disk_chains.proofs.map_agrees.Goals as goal

pub returns : goal.returns
returns c =
    all_from_yields_List (λ i. bit_agrees c.args.disk.now (λ n. get_or c.args.marks.now n false) (1 + i / 24) (i % 24)) _ _ _ c.all.ensures.ran (YieldsList-from_range 0 840 840 refl refl) (λ x b q k. search (rules, tests))
    ∙ map_listed c.args.disk.now (λ n. get_or c.args.marks.now n false)
