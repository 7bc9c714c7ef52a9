-- `disk_sentences::put_twins` meets its contract.
-- Assumes nothing.
use Rattle.disk_sentences.proofs.Saying.{twins_put}
use Rattle.disk_sentences.proofs.put_twins.Goals as goal

pub returns : goal.returns
returns c = search twins_put
