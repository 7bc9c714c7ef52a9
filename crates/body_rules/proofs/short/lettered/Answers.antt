-- `body_rules::short::lettered` meets its contract.
-- Assumes nothing.
use Rattle.body_rules.proofs.StringSteps.{lettered_small, lettered_capital, lettered_low, lettered_between, lettered_high, raised_from, capital_fits}
use Rattle.body_rules.proofs.short.lettered.Goals as goal

pub overflow_sub-result : goal.overflow_sub-result
overflow_sub-result c = search raised_from

pub overflow_add-result : goal.overflow_add-result
overflow_add-result c = search capital_fits

pub returns-in-97-to-122 : goal.returns-in-97-to-122
returns-in-97-to-122 c = search lettered_small

pub returns-in-65-to-90 : goal.returns-in-65-to-90
returns-in-65-to-90 c = search lettered_capital

pub returns-in_default : goal.returns-in_default
returns-in_default c = search lettered_low

pub returns-in_default-2 : goal.returns-in_default-2
returns-in_default-2 c = search lettered_between

pub returns-in_default-3 : goal.returns-in_default-3
returns-in_default-3 c = search lettered_high
