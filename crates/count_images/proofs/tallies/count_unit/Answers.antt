-- `count_images::tallies::count_unit` meets its contract.
-- Assumes nothing.
use Rattle.count_images.proofs.Raising.{counted_one, counted_none}
use Rattle.count_images.proofs.tallies.count_unit.Goals as goal

pub returns-then-k-lt-TAKEN : goal.returns-then-k-lt-TAKEN
returns-then-k-lt-TAKEN c = search counted_one

pub returns-else-k-lt-TAKEN : goal.returns-else-k-lt-TAKEN
returns-else-k-lt-TAKEN c = search counted_none
