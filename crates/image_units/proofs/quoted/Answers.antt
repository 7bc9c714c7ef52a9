-- `image_units::quoted` meets its contract.
-- Assumes nothing.
use mathlib.Core.Path.{◌∙◌}
use Rattle.image_units.proofs.Cases.{quoted_quote, quoted_char}
use Rattle.image_units.proofs.quoted.Goals as goal
use Rattle.image_units.proofs.quoted.Goals.{then-b-eq34, else-b-eq34}

pub returns : goal.returns
returns c =
    elim c.if-b-eq34.branch [
      | then-b-eq34 w ↦ quoted_quote _ _ c.one.ensures w.if-b-eq34.true (w.behind-is ∙ w.toggled-behind.ensures)
      | else-b-eq34 w ↦ quoted_char _ _ c.one.ensures w.if-b-eq34.false w.behind-is
    ]
