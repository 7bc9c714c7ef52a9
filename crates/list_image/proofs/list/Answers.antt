-- `list_image::list` meets its contract: the original's listing is one of the cases.
-- Assumes nothing.
use Rattle.list_image.proofs.Whole.{original_listing}
use Rattle.list_image.proofs.list.Goals as goal

pub returns : goal.returns
returns c = search original_listing
