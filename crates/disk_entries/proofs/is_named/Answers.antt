-- `disk_entries::is_named` meets its contract.
-- Assumes nothing.
use Rattle.disk_entries.proofs.Naming.{name_told_lem}
use Rattle.disk_entries.proofs.is_named.Goals as goal

pub returns : goal.returns
returns c = name_told_lem _ _ _ c.name_at.ensures c.same.ensures
