-- `text_places::past` meets its contract.
-- Assumes nothing.
use Rattle.text_places.proofs.Placing.{past_end_lem, past_pi, past_one}
use Rattle.text_places.proofs.past.Goals as goal

pub returns-then-ends_line : goal.returns-then-ends_line
returns-then-ends_line c = search past_end_lem

pub returns-then-b-eq128 : goal.returns-then-b-eq128
returns-then-b-eq128 c = search past_pi

pub returns-else-b-eq128 : goal.returns-else-b-eq128
returns-else-b-eq128 c = search (past_one, c.if-b-eq128.false)
