-- `moldthatch::moldthatch_crunch_with` meets its contract.
-- Assumes nothing.
use Rattle.moldthatch.proofs.TellingOptions.{tells_image, tells_unknown}
use Rattle.moldthatch.proofs.moldthatch_crunch_with.Goals as goal

pub returns-in-Ok : goal.returns-in-Ok
returns-in-Ok c = search tells_image

pub returns-in-Err : goal.returns-in-Err
returns-in-Err c = search tells_unknown
