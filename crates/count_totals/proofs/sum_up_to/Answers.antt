-- `count_totals::sum_up_to` meets its contract.
-- Assumes nothing.
use Rattle.std.proofs.Common.{sym, arith}
use Rattle.std.proofs.lemmas.List.{length-take-le}
use Rattle.count_totals.proofs.Sums.{summed_start, summed_turn, summed_over, summed_end}
use Rattle.count_totals.proofs.sum_up_to.Goals as goal

pub slice_bounds-count-items-end : goal.slice_bounds-count-items-end
slice_bounds-count-items-end c = sym (length-take-le 204 _ (omega arith))

pub loop-count-init : goal.loop-count-init
loop-count-init c = search summed_start

pub returns-then-count-most : goal.returns-then-count-most
returns-then-count-most c = search summed_over

pub loop-count-preserved : goal.loop-count-preserved
loop-count-preserved c = search summed_turn

pub returns : goal.returns
returns c = search summed_end
