-- `guess_places::beginnings::begins_data` meets its contract.
-- Assumes nothing.
use Rattle.guess_places.proofs.Words.{no_data}
use Rattle.guess_places.proofs.beginnings.begins_data.Goals as goal

pub returns-else-upper-eq68 : goal.returns-else-upper-eq68
returns-else-upper-eq68 c = no_data _ c.if-upper-eq68.false c.upper.ensures c.requires
