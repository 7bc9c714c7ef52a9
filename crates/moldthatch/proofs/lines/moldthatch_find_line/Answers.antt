-- `moldthatch::lines::moldthatch_find_line` meets its contract.
-- Assumes nothing.
use Rattle.moldthatch.proofs.TellingLines.{tells_visit}
use Rattle.moldthatch.proofs.lines.moldthatch_find_line.Goals as goal

pub returns : goal.returns
returns c = search tells_visit
