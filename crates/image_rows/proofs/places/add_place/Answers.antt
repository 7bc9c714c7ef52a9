-- `image_rows::places::add_place` meets its contract.
-- Assumes nothing.
use Rattle.image_rows.proofs.Placing.{adds_end}
use Rattle.image_rows.proofs.places.add_place.Goals as goal

pub returns : goal.returns
returns c = search adds_end
