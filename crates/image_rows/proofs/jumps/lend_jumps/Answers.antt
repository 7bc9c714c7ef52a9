-- `image_rows::jumps::lend_jumps` meets its contract.
-- Assumes nothing.
use Rattle.image_rows.proofs.Threading.{whole_none, whole_stored}
use Rattle.image_rows.proofs.jumps.lend_jumps.Goals as goal

pub returns-then-out-needed : goal.returns-then-out-needed
returns-then-out-needed c = search whole_none

pub returns : goal.returns
returns c = search whole_stored
