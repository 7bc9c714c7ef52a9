-- `image_sentences::lend_disk` meets its contract.
-- Assumes nothing.
use Rattle.image_sentences.specs.Sentences.{disk_row}
use Rattle.image_sentences.proofs.Telling.{tells_file, tells_files}
use Rattle.image_sentences.proofs.lend_disk.Goals as goal

pub returns-in-true-eq1 : goal.returns-in-true-eq1
unfolding disk_row
returns-in-true-eq1 c = search tells_file

pub returns-in-true-default : goal.returns-in-true-default
unfolding disk_row
returns-in-true-default c = search (tells_files, c.in-true-default.is-1)

pub returns-in-false-eq1 : goal.returns-in-false-eq1
unfolding disk_row
returns-in-false-eq1 c = search tells_file

pub returns-in-false-default : goal.returns-in-false-default
unfolding disk_row
returns-in-false-default c = search (tells_files, c.in-false-default.is-1)
