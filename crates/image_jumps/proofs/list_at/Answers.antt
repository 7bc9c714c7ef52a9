-- `image_jumps::list_at` meets its contract.
-- Assumes nothing.
use Rattle.image_jumps.proofs.Opening.{opens_in, opens_elsewhere}
use Rattle.image_jumps.proofs.list_at.Goals as goal

pub returns-in-Plain : goal.returns-in-Plain
returns-in-Plain c = search opens_in

pub returns-in_default : goal.returns-in_default
returns-in_default c = opens_elsewhere _ _ _ c.in_default.not-Plain
