-- `list_image::list_under` meets its contract.
-- Assumes nothing.
use Rattle.list_image.proofs.Whole.{listing_under_lem}
use Rattle.list_image.proofs.list_under.Goals as goal

pub returns : goal.returns
returns c = search listing_under_lem
