-- `word_search::passes` meets its contract.
-- Assumes nothing.
use mathlib.Core.Path.{◌∙◌}
use borrow.Author.Tests.{ne_eqb}
use Rattle.word_search.proofs.Comparing.{passes_begins, passes_alike, passes_longer, passes_same, passes_shortens}
use Rattle.word_search.proofs.passes.Goals as goal

pub returns-then-word-text : goal.returns-then-word-text
returns-then-word-text c = search passes_alike

pub returns-in-Begins : goal.returns-in-Begins
returns-in-Begins c = search passes_begins

pub returns-else-word-text : goal.returns-else-word-text
returns-else-word-text c = ne_eqb _ _ c.if-word-text.false ∙ passes_longer _ _ c.if-word-text.false c.in-Alike.is

pub returns-in-Same : goal.returns-in-Same
returns-in-Same c = search passes_same

pub returns-in-Shortens : goal.returns-in-Shortens
returns-in-Shortens c = search passes_shortens
