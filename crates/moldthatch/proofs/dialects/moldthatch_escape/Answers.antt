-- `moldthatch::dialects::moldthatch_escape` meets its contract.
-- Assumes nothing.
use Rattle.moldthatch.proofs.TellingDialects.{tells_escape}
use Rattle.moldthatch.proofs.dialects.moldthatch_escape.Goals as goal

pub returns : goal.returns
returns c = search tells_escape
