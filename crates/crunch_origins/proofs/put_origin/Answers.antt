-- `crunch_origins::put_origin` meets its contract.
-- Assumes nothing.
use mathlib.Core.Path.{sym, ◌∙◌}
use borrow.Author.Tests.{eqb-true, eqb-false}
use Rattle.crunch_origins.proofs.Pairing.{blank_put, line_put, line_over}
use Rattle.crunch_origins.proofs.put_origin.Goals as goal
use Rattle.crunch_origins.proofs.put_origin.Goals.{then-is_empty-via-then-is_empty, then-is_empty-via-else-is_empty+then-to-out}

pub returns-then-is_empty : goal.returns-then-is_empty
returns-then-is_empty c =
    elim c.then-is_empty.branch [
      | then-is_empty-via-then-is_empty w ↦ blank_put _ _ _ _ c.trim.ensures (eqb-true _ _ (sym c.is_empty.ensures ∙ w.if-is_empty.true)) c.requires
      | then-is_empty-via-else-is_empty+then-to-out w ↦
          line_over _ _ _ _ c.trim.ensures w.if-to-out.true c.requires (eqb-false _ _ (sym c.is_empty.ensures ∙ w.if-is_empty.false))
    ]

pub returns : goal.returns
returns c = line_put _ _ _ _ c.trim.ensures c.if-to-out.false (eqb-false _ _ (sym c.is_empty.ensures ∙ c.if-is_empty.false))
