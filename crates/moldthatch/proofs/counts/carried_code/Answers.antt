-- `moldthatch::counts::carried_code` meets its contract.
-- Assumes nothing.
use Rattle.moldthatch.proofs.Telling.{tells_fate, tells_apart}
use Rattle.moldthatch.proofs.counts.carried_code.Goals as goal

pub returns-in-Taken : goal.returns-in-Taken
returns-in-Taken c = search tells_fate

pub returns-in-Apart : goal.returns-in-Apart
returns-in-Apart c = search tells_apart

pub returns-in-Refused : goal.returns-in-Refused
returns-in-Refused c = search tells_fate

pub returns-in-NoTotals : goal.returns-in-NoTotals
returns-in-NoTotals c = search tells_fate
