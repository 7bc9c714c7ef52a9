-- `text_places::ends_line` meets its contract.
-- Assumes nothing.
use mathlib.Core.Path.{ap, ◌∙◌}
use mathlib.Core.Bool.{not}
use borrow.Author.Tests.{eq-eqb, ne_eqb}
use Rattle.text_places.proofs.Placing.{ends_lf, ends_other, ends_next, begins_lf}
use Rattle.text_places.proofs.ends_line.Goals as goal

pub returns-then-b-eq10 : goal.returns-then-b-eq10
returns-then-b-eq10 c = eq-eqb _ _ c.if-b-eq10.true ∙ ends_lf _ c.if-b-eq10.true

pub returns-then-b-eq13 : goal.returns-then-b-eq13
returns-then-b-eq13 c = ap not (c.starts_with.ensures.value ∙ begins_lf c.args.rest.now) ∙ ends_next _ c.if-b-eq10.false c.if-b-eq13.true

pub returns-else-b-eq13 : goal.returns-else-b-eq13
returns-else-b-eq13 c = ne_eqb _ _ c.if-b-eq13.false ∙ ends_other _ c.if-b-eq10.false c.if-b-eq13.false
