-- `guess_places::place::is_start` meets its contract.
-- Assumes nothing.
use Rattle.guess_places.proofs.Places.{start_yes, start_no}
use Rattle.guess_places.proofs.place.is_start.Goals as goal

pub returns-in-Start : goal.returns-in-Start
returns-in-Start c = start_yes _ c.in-Start.is

pub returns-in_default : goal.returns-in_default
returns-in_default c = start_no _ c.in_default.not-Start
