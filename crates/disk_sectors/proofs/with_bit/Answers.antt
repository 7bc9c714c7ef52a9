-- `disk_sectors::with_bit` meets its contract.
-- Assumes nothing.
use native.Mathlib.Omega.{arith}
use Rattle.disk_sectors.proofs.Bits.{made_one, made_zero}
use Rattle.disk_sectors.proofs.with_bit.Goals as goal

pub returns-then-one : goal.returns-then-one
returns-then-one c = rw c.if-one.true (made_one c.args.byte c.args.k c.requires)

pub returns-else-one : goal.returns-else-one
returns-else-one c = rw c.if-one.false (made_zero c.args.byte c.args.k c.requires (omega arith))
