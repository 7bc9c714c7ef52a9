-- `guess_variables::after_dim` meets its contract.
-- Assumes nothing.
use mathlib.Core.Path.{◌∙◌}
use Rattle.guess_variables.proofs.Passes.{dim_first, dim_less, dim_told, solid_within}
use Rattle.guess_variables.proofs.after_dim.Goals as goal
use Rattle.guess_variables.proofs.after_dim.Goals.{then-i-ge4, else-i-ge4}

pub slice_bounds-begins-end-then-end-ge3 : goal.slice_bounds-begins-end-then-end-ge3
slice_bounds-begins-end-then-end-ge3 c = search solid_within

pub returns-then-end-ge3 : goal.returns-then-end-ge3
returns-then-end-ge3 c = search dim_told

pub returns-else-end-ge3 : goal.returns-else-end-ge3
returns-else-end-ge3 c =
    elim c.if-i-ge4.branch [
      | then-i-ge4 w ↦ w.t-8-is ∙ dim_less _ _ c.solid-end.ensures w.if-i-ge4.true c.requires c.if-end-ge3.either
      | else-i-ge4 w ↦ w.t-8-is ∙ dim_first _ _ w.if-i-ge4.false c.requires
    ]
