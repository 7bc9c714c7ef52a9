-- `word_search::begins` meets its contract.
-- Assumes nothing.
use Rattle.std.proofs.Common.{rules, tests, ◌∙◌}
use Rattle.std.specs.Prelude.{eqb}
use Rattle.std.proofs.lemmas.Iterator.{YieldsList-from_slice, YieldsList-from_zip}
use Rattle.std.proofs.lemmas.Iterator.Search.{all_from_yields_List}
use borrow.Author.Tests.{lt-leb}
use Rattle.base_ascii.specs.Bytes.{upper}
use Rattle.word_search.proofs.Comparing.{begins_zip, begins_long}
use Rattle.word_search.proofs.begins.Goals as goal

pub returns-then-word-text : goal.returns-then-word-text
returns-then-word-text c =
    all_from_yields_List (λ p. eqb (upper p.0) (upper p.1)) c.all.new.self _ _ c.all.ensures.ran (YieldsList-from_zip (YieldsList-from_slice c.args.word.now (cc)) (YieldsList-from_slice c.args.text.now (cc))) (λ x b q k. search (rules, tests))
    ∙ begins_zip c.args.word.now c.args.text.now c.if-word-text.true

pub returns-else-word-text : goal.returns-else-word-text
returns-else-word-text c = lt-leb _ _ c.if-word-text.false ∙ begins_long c.args.word.now c.args.text.now c.if-word-text.false
