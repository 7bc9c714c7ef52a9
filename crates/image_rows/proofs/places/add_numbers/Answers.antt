-- `image_rows::places::add_numbers` meets its contract.
-- Assumes nothing.
use Rattle.image_rows.proofs.Placing.{adds_origin, adds_bare}
use Rattle.image_rows.proofs.places.add_numbers.Goals as goal

pub returns-then-before-origins : goal.returns-then-before-origins
returns-then-before-origins c = search adds_origin

pub returns-else-before-origins : goal.returns-else-before-origins
returns-else-before-origins c = search adds_bare
