-- `image_relink::is_in_memory` meets its contract.
-- Assumes nothing.
use Rattle.image_relink.proofs.Following.{not_within, within_is}
use Rattle.image_relink.proofs.is_in_memory.Goals as goal

pub returns-then-offset-image : goal.returns-then-offset-image
returns-then-offset-image c = search within_is

pub returns-else-offset-image : goal.returns-else-offset-image
returns-else-offset-image c = search not_within
