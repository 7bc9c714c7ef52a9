-- `image_rows::parts::add_text` meets its contract.
-- Assumes nothing.
use Rattle.image_rows.proofs.Adding.{adds_nothing, adds_stored}
use Rattle.image_rows.proofs.parts.add_text.Goals as goal

pub returns-then-out-at : goal.returns-then-out-at
returns-then-out-at c = search adds_nothing

pub returns : goal.returns
returns c = search adds_stored
