-- `count_totals::are_totals` meets its contract.
-- Assumes nothing.
use Rattle.count_totals.proofs.Bounds.{not_long, too_many, more_refused, sum_decides}
use Rattle.count_totals.proofs.are_totals.Goals as goal
use Rattle.count_totals.proofs.are_totals.Goals.{then-totals-ne-LENGTH-via-then-totals-ne-LENGTH, then-totals-ne-LENGTH-via-else-totals-ne-LENGTH+then-totals-gt-MOST_IMAGES, then-totals-ne-LENGTH-via-else-totals-ne-LENGTH+else-totals-gt-MOST_IMAGES+then-totals}

pub returns-then-totals-ne-LENGTH : goal.returns-then-totals-ne-LENGTH
returns-then-totals-ne-LENGTH c =
    elim c.then-totals-ne-LENGTH.branch [
      | then-totals-ne-LENGTH-via-then-totals-ne-LENGTH w ↦ search (not_long, w.if-totals-ne-LENGTH.true)
      | then-totals-ne-LENGTH-via-else-totals-ne-LENGTH+then-totals-gt-MOST_IMAGES w ↦ search too_many
      | then-totals-ne-LENGTH-via-else-totals-ne-LENGTH+else-totals-gt-MOST_IMAGES+then-totals w ↦ search more_refused
    ]

pub returns : goal.returns
returns c = search sum_decides
