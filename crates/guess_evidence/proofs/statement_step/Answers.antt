-- `guess_evidence::statement_step` meets its contract.
-- Assumes nothing.
use Rattle.guess_places.proofs.Words.{letter_told}
use Rattle.guess_evidence.proofs.statement_step.Goals as goal

pub letter_step-requires : goal.letter_step-requires
letter_step-requires c = search letter_told

pub other_step-requires : goal.other_step-requires
other_step-requires c = search letter_told
