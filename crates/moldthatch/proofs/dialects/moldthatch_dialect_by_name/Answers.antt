-- `moldthatch::dialects::moldthatch_dialect_by_name` meets its contract.
-- Assumes nothing.
use Rattle.moldthatch.proofs.TellingDialects.{tells_name}
use Rattle.moldthatch.proofs.dialects.moldthatch_dialect_by_name.Goals as goal

pub returns : goal.returns
returns c = search tells_name
