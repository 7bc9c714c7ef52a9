-- `image_faults::number_at` meets its contract.
-- Assumes nothing.
use Rattle.image_faults.proofs.Telling.{number_beyond}
use Rattle.image_faults.proofs.number_at.Goals as goal

pub returns-then-offset-image : goal.returns-then-offset-image
returns-then-offset-image c = search number_beyond
