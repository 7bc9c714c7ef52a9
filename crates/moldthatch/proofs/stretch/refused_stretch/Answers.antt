-- `moldthatch::stretch::refused_stretch` meets its contract.
-- Assumes nothing.
use Rattle.moldthatch.proofs.TellingStretch.{tells_no_stretch}
use Rattle.moldthatch.proofs.stretch.refused_stretch.Goals as goal

pub returns : goal.returns
returns c = search tells_no_stretch
