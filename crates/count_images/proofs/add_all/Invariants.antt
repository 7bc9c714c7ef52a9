-- `count_images::add_all` meets its contract.
-- Assumes nothing.
use Rattle.count_images.proofs.Adding.{AddedUpTo}
use Rattle.count_images.proofs.add_all.Given as goal

abbrev pub invariant-loop-k : goal.invariant-loop-k
invariant-loop-k l = AddedUpTo l.initial.totals l.other l.totals l.k
