-- `disk_sectors::ones` meets its contract.
-- Assumes nothing.
use native.Mathlib.Omega.{arith}
use Rattle.disk_sectors.proofs.Bits.{ones_counted}
use Rattle.disk_sectors.proofs.ones.Goals as goal

pub returns : goal.returns
returns c = ones_counted c.args.byte (omega arith)
