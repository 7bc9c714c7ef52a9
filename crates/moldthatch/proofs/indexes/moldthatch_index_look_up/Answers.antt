-- `moldthatch::indexes::moldthatch_index_look_up` meets its contract.
-- Assumes nothing.
use Rattle.moldthatch.proofs.Telling.{tells_entry}
use Rattle.moldthatch.proofs.indexes.moldthatch_index_look_up.Goals as goal

pub returns : goal.returns
returns c = search tells_entry
