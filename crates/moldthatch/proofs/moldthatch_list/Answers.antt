-- `moldthatch::moldthatch_list` meets its contract.
-- Assumes nothing.
use Rattle.moldthatch.proofs.Telling.{tells}
use Rattle.moldthatch.proofs.moldthatch_list.Goals as goal

pub returns : goal.returns
returns c = tells c.list.result c.outcome_code.ensures c.list.ensures
