-- `moldthatch::stretch::stretch_code` meets its contract.
-- Assumes nothing.
use Rattle.moldthatch.proofs.TellingStretch.{tells_length}
use Rattle.moldthatch.proofs.stretch.stretch_code.Goals as goal

pub returns : goal.returns
returns c = search tells_length
