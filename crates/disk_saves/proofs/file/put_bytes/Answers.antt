-- `disk_saves::file::put_bytes` meets its contract.
-- Assumes nothing.
use Rattle.disk_saves.proofs.Writing.{bytes_put}
use Rattle.disk_saves.proofs.file.put_bytes.Goals as goal

pub returns : goal.returns
returns c = search bytes_put
