-- `moldthatch::dialects::moldthatch_resolved_dialect` meets its contract.
-- Assumes nothing.
use Rattle.moldthatch.proofs.TellingDialects.{tells_taken, tells_untaken}
use Rattle.moldthatch.proofs.dialects.moldthatch_resolved_dialect.Goals as goal

pub returns-in-Ok : goal.returns-in-Ok
returns-in-Ok c = search tells_taken

pub returns-in-Err : goal.returns-in-Err
returns-in-Err c = search tells_untaken
