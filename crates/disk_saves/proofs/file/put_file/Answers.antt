-- `disk_saves::file::put_file` meets its contract.
-- Assumes nothing.
use Rattle.disk_saves.proofs.Writing.{file_put}
use Rattle.disk_saves.proofs.file.put_file.Goals as goal

pub returns : goal.returns
returns c = search file_put
