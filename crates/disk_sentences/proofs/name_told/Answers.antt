-- `disk_sentences::name_told` meets its contract.
-- Assumes nothing.
use Rattle.disk_sentences.proofs.Saying.{short_told, far_told, here_told}
use Rattle.disk_sentences.proofs.name_told.Goals as goal

pub returns-then-disk-lt30 : goal.returns-then-disk-lt30
returns-then-disk-lt30 c = search short_told

pub returns-then-p-disk : goal.returns-then-p-disk
returns-then-p-disk c = search far_told

pub returns : goal.returns
returns c = search here_told
