-- `list_stretches::list_stretch` meets its contract.
-- Assumes nothing.
use Rattle.list_stretches.proofs.Stretches.{stretch_told_lem, stretch_stored}
use Rattle.list_stretches.proofs.list_stretch.Goals as goal

pub returns : goal.returns
returns c = (search stretch_told_lem, search stretch_stored)
