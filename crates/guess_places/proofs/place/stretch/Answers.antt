-- `guess_places::place::stretch` meets its contract.
-- Assumes nothing.
use Rattle.guess_places.proofs.Places.{plain_none, data_stretch, string_stretch}
use Rattle.guess_places.proofs.place.stretch.Goals as goal

pub returns-in-Start : goal.returns-in-Start
returns-in-Start c = plain_none _ _ c.in-Start.is

pub returns-in-Quoted : goal.returns-in-Quoted
returns-in-Quoted c = string_stretch _ _ c.before-in-Quoted.ensures c.in-Quoted.is

pub returns-in-Data : goal.returns-in-Data
returns-in-Data c = search data_stretch
