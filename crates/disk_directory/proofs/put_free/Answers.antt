-- `disk_directory::put_free` meets its contract.
-- Assumes nothing.
use Rattle.disk_directory.proofs.Lining.{free_put}
use Rattle.disk_directory.proofs.put_free.Goals as goal

pub returns : goal.returns
returns c = search free_put
