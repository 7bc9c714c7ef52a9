-- `count_images::tallies::raise` meets its contract.
-- Assumes nothing.
use Rattle.count_images.proofs.Raising.{raise_fits, raise_tally}
use Rattle.count_images.proofs.tallies.raise.Goals as goal

pub overflow_add-totals : goal.overflow_add-totals
overflow_add-totals c = search raise_fits

pub returns : goal.returns
returns c = search raise_tally
