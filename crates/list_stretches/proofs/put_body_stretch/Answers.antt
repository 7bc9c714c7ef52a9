-- `list_stretches::put_body_stretch` meets its contract.
-- Assumes nothing.
use Rattle.list_stretches.proofs.Stretches.{stretch_within, stretch_full, stretch_over}
use Rattle.list_stretches.proofs.put_body_stretch.Goals as goal
use Rattle.list_stretches.proofs.put_body_stretch.Goals.{then-at-body-via-then-at-body, then-at-body-via-else-at-body+then-to-out}

pub returns-then-at-body : goal.returns-then-at-body
returns-then-at-body c =
    elim c.then-at-body.branch [
      | then-at-body-via-then-at-body w ↦ search stretch_within
      | then-at-body-via-else-at-body+then-to-out w ↦ search stretch_full
    ]

pub returns : goal.returns
returns c = search stretch_over
