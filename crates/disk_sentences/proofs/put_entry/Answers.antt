-- `disk_sentences::put_entry` meets its contract.
-- Assumes nothing.
use Rattle.disk_sentences.proofs.Saying.{entry_put}
use Rattle.disk_sentences.proofs.put_entry.Goals as goal

pub returns : goal.returns
returns c = search entry_put
