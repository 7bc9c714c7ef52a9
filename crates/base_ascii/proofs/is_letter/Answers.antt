-- `base_ascii::is_letter` meets its contract.
-- Assumes nothing.
use Rattle.base_ascii.proofs.is_letter.Goals as goal

pub returns : goal.returns
returns c = cc
