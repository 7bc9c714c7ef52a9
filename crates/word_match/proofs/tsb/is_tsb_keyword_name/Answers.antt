-- `word_match::tsb::is_tsb_keyword_name` meets its contract: the stored words are the lists', and one of them is found just where the test says yes.
-- Assumes nothing.
use mathlib.Core.Path.{◌∙◌}
use Rattle.word_tables.proofs.TsbTest.{tsb_test}
use Rattle.word_match.proofs.tsb.is_tsb_keyword_name.Goals as goal

pub returns : goal.returns
returns c = c.is_some.ensures ∙ tsb_test _ c.match_in.ensures
