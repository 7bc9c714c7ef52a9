-- `disk_sentences::put_hex` meets its contract.
-- Assumes nothing.
use Rattle.disk_sentences.proofs.Saying.{hex_put}
use Rattle.disk_sentences.proofs.put_hex.Goals as goal

pub returns : goal.returns
returns c = search hex_put
