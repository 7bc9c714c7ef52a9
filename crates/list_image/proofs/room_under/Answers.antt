-- `list_image::room_under` meets its contract.
-- Assumes nothing.
use Rattle.list_image.proofs.Whole.{room_under}
use Rattle.list_image.proofs.room_under.Goals as goal

pub returns : goal.returns
returns c = search room_under
