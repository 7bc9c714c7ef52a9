-- `disk_sentences::put_place` meets its contract.
-- Assumes nothing.
use Rattle.disk_sentences.proofs.Saying.{place_put}
use Rattle.disk_sentences.proofs.put_place.Goals as goal

pub returns : goal.returns
returns c = search place_put
