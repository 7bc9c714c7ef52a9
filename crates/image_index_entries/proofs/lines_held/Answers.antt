-- `image_index_entries::lines_held` meets its contract.
-- Assumes nothing.
use native.Mathlib.Omega.{arith}
use Rattle.image_index_entries.proofs.lines_held.Goals as goal

pub returns : goal.returns
returns c = (omega arith, omega arith, omega arith)
