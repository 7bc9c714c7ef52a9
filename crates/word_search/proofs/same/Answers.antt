-- `word_search::same` meets its contract.
-- Assumes nothing.
use mathlib.Core.Path.{◌∙◌}
use Rattle.word_search.proofs.Sameness.{same_pointwise}
use Rattle.word_search.proofs.same.Goals as goal

pub returns : goal.returns
returns c = c.eq.ensures ∙ same_pointwise _ _
