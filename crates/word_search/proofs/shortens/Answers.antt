-- `word_search::shortens` meets its contract.
-- Assumes nothing.
use mathlib.Core.Path.{sym, ap, ◌∙◌}
use mathlib.Core.Bool.{not}
use mathlib.Core.Logic.{inl, inr}
use borrow.Author.Tests.{eqb-true, eqb-false, le-ltb}
use Rattle.word_search.proofs.Comparing.{shortens_none, shortens_long, shortens_begun}
use Rattle.word_search.proofs.shortens.Goals as goal
use Rattle.word_search.proofs.shortens.Goals.{then-not-is_empty, else-not-is_empty}

pub returns-then-text-word : goal.returns-then-text-word
returns-then-text-word c = shortens_begun _ _ c.begins.ensures c.if-text-word.true.1 (eqb-false _ _ (sym c.is_empty.ensures ∙ c.if-text-word.true.0))

pub returns-else-text-word : goal.returns-else-text-word
returns-else-text-word c =
    elim c.if-not-is_empty.branch [
      | then-not-is_empty w ↦ elim c.if-text-word.either [
        | inl p ↦ w.t-4-is ∙ le-ltb _ _ p.1 ∙ shortens_long _ _ p.1
        | inr e ↦ absurd (eqb-false _ _ (sym c.is_empty.ensures ∙ w.if-not-is_empty.true) (eqb-true _ _ (sym c.is_empty.ensures ∙ e)))
      ]
      | else-not-is_empty w ↦ w.t-4-is ∙ ap not w.if-not-is_empty.false ∙ shortens_none _ _ (eqb-true _ _ (sym c.is_empty.ensures ∙ w.if-not-is_empty.false))
    ]
