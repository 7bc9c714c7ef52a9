-- `disk_sectors::bit` meets its contract.
-- Assumes nothing.
use mathlib.Core.Path.{refl}
use native.Mathlib.Omega.{arith}
use Rattle.std.proofs.lemmas.Nat.Bits.{shr_and_one}
use Rattle.disk_rules.specs.Map.{bit_of}
use Rattle.disk_sectors.proofs.bit.Goals as goal

pub returns : goal.returns
unfolding bit_of
returns c = rw shr_and_one (refl, omega arith)
