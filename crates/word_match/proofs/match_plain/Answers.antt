-- `word_match::match_plain` meets its contract: a word that is found first in the two lists, one behind the other, is found in one of them.
-- Assumes nothing.
use mathlib.Core.Path.{sym, ◌∙◌}
use borrow.Author.Tests.{not-true, not-false}
use mathlib.Core.Logic.{inl, inr}
use Rattle.word_match.proofs.Both.{plain_first, plain_own, plain_none, own_fits}
use Rattle.word_match.proofs.match_plain.Goals as goal
use Rattle.word_match.proofs.match_plain.Goals.{then-is_some-via-then-is_some, then-is_some-via-else-is_some+then-not-sets}

pub returns-then-is_some : goal.returns-then-is_some
returns-then-is_some c = plain_first _ _ c.match_v2-v2.ensures
    (elim c.then-is_some.branch [
      | then-is_some-via-then-is_some w ↦ inl (sym c.is_some.ensures ∙ w.if-is_some.true)
      | then-is_some-via-else-is_some+then-not-sets w ↦ inr (not-true _ w.if-not-sets.true)
    ])

pub returns-in_err-own : goal.returns-in_err-own
returns-in_err-own c = c.from_residual.ensures ∙ plain_none c.args.sets _ c.match_v2-v2.ensures (sym c.is_some.ensures ∙ c.if-is_some.false) (not-false _ c.if-not-sets.false) c.in_err-own.was c.match_basic35.ensures

pub overflow_add-result : goal.overflow_add-result
overflow_add-result c = own_fits _ c.in_ok-own.was c.match_basic35.ensures

pub returns : goal.returns
returns c = plain_own _ _ c.match_v2-v2.ensures (sym c.is_some.ensures ∙ c.if-is_some.false) (not-false _ c.if-not-sets.false) c.in_ok-own.was c.match_basic35.ensures
