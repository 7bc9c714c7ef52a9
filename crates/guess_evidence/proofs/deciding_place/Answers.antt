-- `guess_evidence::deciding_place` meets its contract.
-- Assumes nothing.
use Rattle.guess_evidence.proofs.Steps.{empty_nowhere}
use Rattle.guess_evidence.proofs.deciding_place.Goals as goal

pub returns-in-0 : goal.returns-in-0
returns-in-0 c = search (empty_nowhere, c.in-0.is)
