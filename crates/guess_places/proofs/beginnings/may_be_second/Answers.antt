-- `guess_places::beginnings::may_be_second` meets its contract.
-- Assumes nothing.
use mathlib.Core.Path.{◌∙◌}
use Rattle.guess_places.proofs.Words.{low_told, high_told, second_told}
use Rattle.guess_places.proofs.beginnings.may_be_second.Goals as goal
use Rattle.guess_places.proofs.beginnings.may_be_second.Goals.{then-c-ge32, else-c-ge32}

pub returns-then-c-le95 : goal.returns-then-c-le95
returns-then-c-le95 c = search second_told

pub returns-else-c-le95 : goal.returns-else-c-le95
returns-else-c-le95 c =
    elim c.if-c-ge32.branch [
      | then-c-ge32 w ↦ w.t-4-is ∙ high_told _ w.if-c-ge32.true c.if-c-le95.either c.upper-c.ensures
      | else-c-ge32 w ↦ w.t-4-is ∙ low_told _ w.if-c-ge32.false c.upper-c.ensures
    ]
