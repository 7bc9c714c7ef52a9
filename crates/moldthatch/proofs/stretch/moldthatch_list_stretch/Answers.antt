-- `moldthatch::stretch::moldthatch_list_stretch` meets its contract.
-- Assumes nothing.
use Rattle.moldthatch.proofs.TellingStretch.{tells_stretch, tells_unstretched}
use Rattle.moldthatch.proofs.stretch.moldthatch_list_stretch.Goals as goal

pub returns-in-Ok : goal.returns-in-Ok
returns-in-Ok c = search tells_stretch

pub returns-in-Err : goal.returns-in-Err
returns-in-Err c = search tells_unstretched
