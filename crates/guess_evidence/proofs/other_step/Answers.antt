-- `guess_evidence::other_step` meets its contract.
-- Assumes nothing.
use Rattle.guess_evidence.proofs.Steps.{statement_quote, other_colon, other_white, other_on}
use Rattle.guess_evidence.proofs.other_step.Goals as goal

pub returns-then-b-eq34 : goal.returns-then-b-eq34
returns-then-b-eq34 c = search statement_quote

pub returns-then-b-eq58 : goal.returns-then-b-eq58
returns-then-b-eq58 c = search other_colon

pub returns-then-is_kind : goal.returns-then-is_kind
returns-then-is_kind c = search (other_white, c.if-b-eq34.false, c.if-b-eq58.false)

pub returns-else-is_kind : goal.returns-else-is_kind
returns-else-is_kind c = search (other_on, c.if-b-eq34.false, c.if-b-eq58.false)
