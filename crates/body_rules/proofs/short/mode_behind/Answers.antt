-- `body_rules::short::mode_behind` meets its contract.
-- Assumes nothing.
use Rattle.body_rules.specs.ShortHelpers.{short_mode}
use Rattle.body_rules.proofs.ShortSteps.{behind_at, stays_plain, stays_string, stays_data, stays_data_quote, stays_remark}
use Rattle.body_rules.proofs.short.mode_behind.Goals as goal

pub returns-in-Plain-eq34 : goal.returns-in-Plain-eq34
unfolding short_mode
returns-in-Plain-eq34 c = search behind_at

pub returns-in-String-eq34 : goal.returns-in-String-eq34
unfolding short_mode
returns-in-String-eq34 c = search behind_at

pub returns-in-Data-eq34 : goal.returns-in-Data-eq34
unfolding short_mode
returns-in-Data-eq34 c = search behind_at

pub returns-in-Data-eq58 : goal.returns-in-Data-eq58
unfolding short_mode
returns-in-Data-eq58 c = search behind_at

pub returns-in-DataQuote-eq34 : goal.returns-in-DataQuote-eq34
unfolding short_mode
returns-in-DataQuote-eq34 c = search behind_at

pub returns-in_default : goal.returns-in_default
returns-in_default c = stays_plain _ c.in_default.is-0 c.in_default.is-1.1

pub returns-in_default-2 : goal.returns-in_default-2
returns-in_default-2 c = stays_string _ c.in_default.is-0 c.in_default.is-1.1

pub returns-in_default-3 : goal.returns-in_default-3
returns-in_default-3 c = stays_data _ c.in_default.is-0 c.in_default.is-1.0.1 c.in_default.is-1.1

pub returns-in_default-4 : goal.returns-in_default-4
returns-in_default-4 c = stays_data_quote _ c.in_default.is-0 c.in_default.is-1.1

pub returns-in_default-5 : goal.returns-in_default-5
returns-in_default-5 c = stays_remark _ c.in_default.is-0
