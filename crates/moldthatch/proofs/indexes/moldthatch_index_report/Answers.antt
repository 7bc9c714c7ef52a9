-- `moldthatch::indexes::moldthatch_index_report` meets its contract.
-- Assumes nothing.
use Rattle.moldthatch.proofs.Telling.{tells}
use Rattle.moldthatch.proofs.indexes.moldthatch_index_report.Goals as goal

pub returns : goal.returns
returns c = search tells
