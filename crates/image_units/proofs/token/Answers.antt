-- `image_units::token` meets its contract.
-- Assumes nothing.
use Rattle.image_units.proofs.token.Goals as goal

pub returns-then-basic35 : goal.returns-then-basic35
returns-then-basic35 c = cc

pub returns-else-basic35 : goal.returns-else-basic35
returns-else-basic35 c = cc
