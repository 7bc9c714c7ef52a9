-- `guess_evidence::line_evidence` meets its contract.
-- Assumes nothing.
use Rattle.guess_evidence.proofs.Steps.{evidence_told}
use Rattle.guess_evidence.proofs.line_evidence.Goals as goal

pub returns : goal.returns
returns c = search evidence_told
