-- `moldthatch::moldthatch_list_with` meets its contract.
-- Assumes nothing.
use Rattle.moldthatch.proofs.TellingOptions.{tells_listing, tells_unlisted}
use Rattle.moldthatch.proofs.moldthatch_list_with.Goals as goal

pub returns-in-Ok : goal.returns-in-Ok
returns-in-Ok c = search tells_listing

pub returns-in-Err : goal.returns-in-Err
returns-in-Err c = search tells_unlisted
