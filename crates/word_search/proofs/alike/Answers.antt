-- `word_search::alike` meets its contract.
-- Assumes nothing.
use mathlib.Core.Path.{◌∙◌}
use borrow.Author.Tests.{eq-eqb, ne_eqb}
use Rattle.word_search.specs.Compare.{alike}
use Rattle.word_search.proofs.alike.Goals as goal

pub returns-then-word-text : goal.returns-then-word-text
unfolding alike
returns-then-word-text c = c.begins.ensures ∙ simp (eq-eqb _ _ c.if-word-text.true)

pub returns-else-word-text : goal.returns-else-word-text
unfolding alike
returns-else-word-text c = simp (ne_eqb _ _ c.if-word-text.false)
