-- `disk_sentences::put_open` meets its contract.
-- Assumes nothing.
use Rattle.disk_sentences.proofs.Saying.{open_put}
use Rattle.disk_sentences.proofs.put_open.Goals as goal

pub returns : goal.returns
returns c = search open_put
