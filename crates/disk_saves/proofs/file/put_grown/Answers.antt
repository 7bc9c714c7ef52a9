-- `disk_saves::file::put_grown` meets its contract.
-- Assumes nothing.
use Rattle.disk_saves.proofs.Writing.{file_grown}
use Rattle.disk_saves.proofs.file.put_grown.Goals as goal

pub returns : goal.returns
returns c = search file_grown
