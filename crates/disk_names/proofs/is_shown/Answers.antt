-- `disk_names::is_shown` meets its contract.
-- Assumes nothing.
use mathlib.Core.Path.{ap, ◌∙◌}
use mathlib.Core.Bool.{not}
use borrow.Author.Tests.{eq-eqb}
use Rattle.disk_names.proofs.Showing.{never_shown, may_be_shown}
use Rattle.disk_names.proofs.is_shown.Goals as goal

pub returns-then-b-ne61 : goal.returns-then-b-ne61
returns-then-b-ne61 c = search (may_be_shown, c.if-b-ne61.true)

pub returns-else-b-ne61 : goal.returns-else-b-ne61
returns-else-b-ne61 c = ap not (eq-eqb c.args.b 61 c.if-b-ne61.false) ∙ never_shown c.args.b c.if-b-ne61.false
