-- `guess_evidence::evidence_step` meets its contract.
-- Assumes nothing.
use Rattle.guess_evidence.proofs.Steps.{step_plain, step_aside}
use Rattle.guess_evidence.proofs.evidence_step.Goals as goal

pub returns-then-is_plain : goal.returns-then-is_plain
returns-then-is_plain c = search step_plain

pub returns-else-is_plain : goal.returns-else-is_plain
returns-else-is_plain c = search step_aside
