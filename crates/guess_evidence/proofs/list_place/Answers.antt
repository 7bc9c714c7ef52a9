-- `guess_evidence::list_place` meets its contract.
-- Assumes nothing.
use Rattle.guess_evidence.proofs.Steps.{place_listed, place_none}
use Rattle.guess_evidence.proofs.list_place.Goals as goal

pub returns-in-Some : goal.returns-in-Some
returns-in-Some c = search place_listed

pub returns-in-None : goal.returns-in-None
returns-in-None c = search place_none
