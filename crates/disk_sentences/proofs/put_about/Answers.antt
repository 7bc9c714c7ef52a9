-- `disk_sentences::put_about` meets its contract.
-- Assumes nothing.
use Rattle.disk_sentences.proofs.Saying.{about_put}
use Rattle.disk_sentences.proofs.put_about.Goals as goal

pub returns : goal.returns
returns c = search about_put
