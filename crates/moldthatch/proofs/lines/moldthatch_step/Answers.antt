-- `moldthatch::lines::moldthatch_step` meets its contract.
-- Assumes nothing.
use Rattle.moldthatch.proofs.TellingLines.{tells_found}
use Rattle.moldthatch.proofs.lines.moldthatch_step.Goals as goal

pub returns : goal.returns
returns c = search tells_found
