-- `disk_entries::name_at` meets its contract.
-- Assumes nothing.
use Rattle.disk_entries.proofs.Naming.{name_part_lem}
use Rattle.disk_entries.proofs.name_at.Goals as goal

pub returns : goal.returns
returns c = search name_part_lem
