-- `moldthatch::counts::moldthatch_count_join` meets its contract.
-- Assumes nothing.
use Rattle.moldthatch.proofs.Telling.{tells_totals}
use Rattle.moldthatch.proofs.counts.moldthatch_count_join.Goals as goal

pub returns : goal.returns
returns c = search tells_totals
