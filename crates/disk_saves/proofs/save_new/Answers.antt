-- `disk_saves::save_new` meets its contract.
-- Assumes nothing.
use mathlib.Core.Path.{sym}
use native.Mathlib.Omega.{arith}
use lib.Seq.{length-take-le}
use Rattle.disk_saves.proofs.Choosing.{too_few, listed_few, chosen_good, enough}
use borrow.Author.Rules.{rules}
use Rattle.disk_saves.proofs.save_new.Goals as goal

pub returns-then-count-needed : goal.returns-then-count-needed
returns-then-count-needed c = search too_few

pub slice_bounds-free-end : goal.slice_bounds-free-end
slice_bounds-free-end c = omega (arith, listed_few)

pub slice_bounds-save_on-end : goal.slice_bounds-save_on-end
slice_bounds-save_on-end c = sym (length-take-le _ _ (omega (arith, listed_few)))

pub save_on-requires : goal.save_on-requires
save_on-requires c = search (rules, chosen_good)

pub returns : goal.returns
returns c = search enough
