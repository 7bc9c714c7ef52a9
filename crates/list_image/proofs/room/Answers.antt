-- `list_image::room` meets its contract: the original's listing is one of the cases.
-- Assumes nothing.
use Rattle.list_image.proofs.Whole.{original_room}
use Rattle.list_image.proofs.room.Goals as goal

pub returns : goal.returns
returns c = search original_room
