-- `moldthatch::dialects::moldthatch_default_load` meets its contract.
-- Assumes nothing.
use Rattle.moldthatch.proofs.TellingDialects.{tells_default}
use Rattle.moldthatch.proofs.dialects.moldthatch_default_load.Goals as goal

pub returns : goal.returns
returns c = search tells_default
