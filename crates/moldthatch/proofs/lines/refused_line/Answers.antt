-- `moldthatch::lines::refused_line` meets its contract.
-- Assumes nothing.
use Rattle.moldthatch.proofs.TellingLines.{tells_none}
use Rattle.moldthatch.proofs.lines.refused_line.Goals as goal

pub returns : goal.returns
returns c = search tells_none
