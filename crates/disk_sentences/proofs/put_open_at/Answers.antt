-- `disk_sentences::put_open_at` meets its contract.
-- Assumes nothing.
use Rattle.disk_sentences.proofs.Saying.{open_at_put}
use Rattle.disk_sentences.proofs.put_open_at.Goals as goal

pub returns : goal.returns
returns c = search open_at_put
