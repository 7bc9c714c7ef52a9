-- `body_rules::opened` meets its contract.
-- Assumes nothing.
use Rattle.body_rules.proofs.PlainSteps.{opened_remark, opened_data, opened_plain}
use Rattle.body_rules.proofs.opened.Goals as goal

pub returns-in-143 : goal.returns-in-143
returns-in-143 c = search opened_remark

pub returns-in-131 : goal.returns-in-131
returns-in-131 c = search opened_data

pub returns-in_default : goal.returns-in_default
returns-in_default c = search opened_plain
