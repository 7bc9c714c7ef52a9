-- `body_rules::short::is_short` meets its contract.
-- Assumes nothing.
use Rattle.body_rules.specs.ShortHelpers.{is_short}
use Rattle.body_rules.proofs.ShortSteps.{short_in, short_pi, short_letter, short_always}
use Rattle.body_rules.proofs.short.is_short.Goals as goal

pub returns-then-b-ne207 : goal.returns-then-b-ne207
returns-then-b-ne207 c = search (short_in, short_letter, c.if-b-ne207.true)

pub returns-else-b-ne207 : goal.returns-else-b-ne207
returns-else-b-ne207 c = search (short_in, short_pi)

pub returns-in-String : goal.returns-in-String
unfolding is_short
returns-in-String c = search short_in

pub returns-in-Remark : goal.returns-in-Remark
returns-in-Remark c = search short_always
