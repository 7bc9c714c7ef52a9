-- `guess_places::beginnings::begins_rem` meets its contract.
-- Assumes nothing.
use Rattle.guess_places.proofs.Words.{no_rem}
use Rattle.guess_places.proofs.beginnings.begins_rem.Goals as goal

pub returns-else-upper-eq82 : goal.returns-else-upper-eq82
returns-else-upper-eq82 c = no_rem _ c.if-upper-eq82.false c.upper.ensures c.requires
