-- `image_sentences::lend_target` meets its contract.
-- Assumes nothing.
use Rattle.image_sentences.specs.Sentences.{target_row}
use Rattle.image_sentences.proofs.Telling.{tells_high, tells_missing}
use Rattle.image_sentences.proofs.lend_target.Goals as goal

pub returns-then-target-gt65535 : goal.returns-then-target-gt65535
unfolding target_row
returns-then-target-gt65535 c = search tells_high

pub returns-else-target-gt65535 : goal.returns-else-target-gt65535
unfolding target_row
returns-else-target-gt65535 c = search tells_missing
