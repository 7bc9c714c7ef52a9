-- `guess_places::place::is_plain` meets its contract.
-- Assumes nothing.
use Rattle.guess_places.proofs.Places.{plain_yes, plain_no}
use Rattle.guess_places.proofs.place.is_plain.Goals as goal

pub returns-in-Start : goal.returns-in-Start
returns-in-Start c = plain_yes _ c.in-Start.is

pub returns-in_default : goal.returns-in_default
returns-in_default c = plain_no _ c.in_default.not-Start c.in_default.not-Within
