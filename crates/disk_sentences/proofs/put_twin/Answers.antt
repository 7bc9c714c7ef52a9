-- `disk_sentences::put_twin` meets its contract.
-- Assumes nothing.
use Rattle.disk_sentences.proofs.Saying.{twin_put}
use Rattle.disk_sentences.proofs.put_twin.Goals as goal

pub returns : goal.returns
returns c = search twin_put
