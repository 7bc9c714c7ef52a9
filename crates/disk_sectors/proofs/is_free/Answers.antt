-- `disk_sectors::is_free` meets its contract.
-- Assumes nothing.
use Rattle.std.proofs.Common.{arith, rules}
use Rattle.disk_sectors.proofs.Bits.{free_18, free_on, free_behind}
use Rattle.disk_sectors.proofs.is_free.Goals as goal
use Rattle.disk_sectors.proofs.is_free.Goals.{in_default-via-then-n-lt357, in_default-via-else-n-lt357+else-n-lt376}

pub returns-in-357-to-375 : goal.returns-in-357-to-375
returns-in-357-to-375 c = search (rules, free_18)

pub returns-in_default : goal.returns-in_default
returns-in_default c =
    elim c.in_default.branch [
      | in_default-via-then-n-lt357 w ↦ free_on _ _ c.bit_at.ensures.0 c.track_of.ensures.0 c.sector_of.ensures.0 (omega arith)
      | in_default-via-else-n-lt357+else-n-lt376 w ↦ free_behind _ _ c.bit_at.ensures.0 c.track_of.ensures.0 c.sector_of.ensures.0 (omega arith) (omega arith)
    ]
