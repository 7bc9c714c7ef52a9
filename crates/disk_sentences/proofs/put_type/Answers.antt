-- `disk_sentences::put_type` meets its contract.
-- Assumes nothing.
use Rattle.disk_sentences.proofs.Saying.{type_put}
use Rattle.disk_sentences.proofs.put_type.Goals as goal

pub returns : goal.returns
returns c = search type_put
