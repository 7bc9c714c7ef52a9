-- `image_rows::places::lend_checked` meets its contract.
-- Assumes nothing.
use Rattle.image_rows.proofs.Adding.{lends_none, lends_all}
use Rattle.image_rows.proofs.places.lend_checked.Goals as goal

pub returns-then-out-needed : goal.returns-then-out-needed
returns-then-out-needed c = search lends_none

pub returns : goal.returns
returns c = search lends_all
