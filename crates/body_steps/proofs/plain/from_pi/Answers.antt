-- `body_steps::plain::from_pi` meets its contract.
-- Assumes nothing.
use Rattle.body_rules.proofs.PlainSteps.{other_pi, other_no_pi, other_short}
use Rattle.body_steps.proofs.plain.from_pi.Goals as goal
use Rattle.body_steps.proofs.plain.from_pi.Goals.{else-rest-gt1-via-then-rest-gt1+else-rest, else-rest-gt1-via-else-rest-gt1}

pub returns-then-rest : goal.returns-then-rest
returns-then-rest c = search other_pi

pub returns : goal.returns
returns c =
    elim c.else-rest-gt1.branch [
      | else-rest-gt1-via-then-rest-gt1+else-rest w ↦ search (other_no_pi, w.if-rest.false)
      | else-rest-gt1-via-else-rest-gt1 w ↦ search other_short
    ]
