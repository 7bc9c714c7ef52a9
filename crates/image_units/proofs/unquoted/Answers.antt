-- `image_units::unquoted` meets its contract: the tests that were taken say which case of the definition holds.
-- Assumes nothing.
use Rattle.image_units.proofs.Cases.{unquoted_quote, unquoted_prefix, unquoted_no_prefix, unquoted_token, unquoted_char}
use Rattle.image_units.proofs.unquoted.Goals as goal

pub returns-then-b-eq34 : goal.returns-then-b-eq34
returns-then-b-eq34 c = search unquoted_quote

pub returns-then-rules : goal.returns-then-rules
returns-then-rules c = search unquoted_prefix

pub returns-then-b-eq100 : goal.returns-then-b-eq100
returns-then-b-eq100 c = search unquoted_no_prefix

pub returns-then-b-ge128 : goal.returns-then-b-ge128
returns-then-b-ge128 c = search unquoted_token

pub returns : goal.returns
returns c = search (unquoted_char, c.if-b-eq34.false, c.if-b-eq100.false)
