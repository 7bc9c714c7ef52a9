-- `body_short_forms::tsb_there` meets its contract.
-- Assumes nothing.
use Rattle.body_short_forms.proofs.Standing.{tsb_off, tsb_found}
use Rattle.body_short_forms.proofs.tsb_there.Goals as goal

pub returns-then-sets : goal.returns-then-sets
returns-then-sets c = search tsb_found

pub returns-else-sets : goal.returns-else-sets
returns-else-sets c = search tsb_off
