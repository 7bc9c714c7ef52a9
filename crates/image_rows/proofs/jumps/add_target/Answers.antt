-- `image_rows::jumps::add_target` meets its contract.
-- Assumes nothing.
use Rattle.image_rows.proofs.Threading.{adds_there, adds_missing}
use Rattle.image_rows.proofs.jumps.add_target.Goals as goal

pub returns-else-there : goal.returns-else-there
returns-else-there c = search adds_missing

pub returns-then-there : goal.returns-then-there
returns-then-there c = search adds_there
