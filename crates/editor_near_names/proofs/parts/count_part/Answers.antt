-- `editor_near_names::parts::count_part` meets its contract.
-- Assumes nothing.
use Rattle.editor_near_names.proofs.Parting.{count_front, count_none, count_behind}
use Rattle.editor_near_names.proofs.parts.count_part.Goals as goal

pub returns-then-front-gt0 : goal.returns-then-front-gt0
returns-then-front-gt0 c = search count_front

pub returns-then-text-star : goal.returns-then-text-star
returns-then-text-star c = search count_none

pub returns : goal.returns
returns c = search count_behind
