-- `image_jumps::behind_go` meets its contract.
-- Assumes nothing.
use Rattle.image_jumps.proofs.Opening.{spaces_fit, goes_to_lem, goes_elsewhere, goes_nowhere}
use Rattle.image_jumps.proofs.behind_go.Goals as goal
use Rattle.image_jumps.proofs.behind_go.Goals.{else-to-body-via-then-to-body+else-body-to, else-to-body-via-else-to-body}

pub overflow_add-to : goal.overflow_add-to
overflow_add-to c = search spaces_fit

pub returns-then-body-to : goal.returns-then-body-to
returns-then-body-to c = search goes_to_lem

pub returns-else-to-body : goal.returns-else-to-body
returns-else-to-body c =
    elim c.else-to-body.branch [
      | else-to-body-via-then-to-body+else-body-to w ↦ goes_elsewhere c.args.body.now c.requires c.front.ensures w.if-to-body.true w.if-body-to.false
      | else-to-body-via-else-to-body w ↦ goes_nowhere c.args.body.now c.requires c.front.ensures w.if-to-body.false
    ]
