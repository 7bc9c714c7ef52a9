-- `disk_bytes::write_sector` meets its contract.
-- Assumes nothing.
use Rattle.disk_bytes.proofs.Laying.{sector_written}
use Rattle.disk_bytes.proofs.write_sector.Goals as goal

pub returns : goal.returns
returns c = search sector_written
