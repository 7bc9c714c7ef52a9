-- `count_totals::sum_up_to` meets its contract.
-- Assumes nothing.
use Rattle.count_totals.proofs.Sums.{Summed}
use Rattle.count_totals.proofs.sum_up_to.Given as goal

abbrev pub invariant-loop-count : goal.invariant-loop-count
invariant-loop-count l = Summed l.totals l.most l.count-index l.sum
