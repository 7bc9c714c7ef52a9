-- `moldthatch::lines::moldthatch_measured_line` meets its contract.
-- Assumes nothing.
use Rattle.moldthatch.proofs.TellingLines.{tells_there, tells_unmeasured}
use Rattle.moldthatch.proofs.lines.moldthatch_measured_line.Goals as goal

pub returns-in-Ok : goal.returns-in-Ok
returns-in-Ok c = search tells_there

pub returns-in-Err : goal.returns-in-Err
returns-in-Err c = search tells_unmeasured
