-- `image_sentences::lend_program` meets its contract.
-- Assumes nothing.
use Rattle.image_sentences.specs.Sentences.{program_row}
use Rattle.image_sentences.proofs.Telling.{tells_line, tells_lines}
use Rattle.image_sentences.proofs.lend_program.Goals as goal

pub returns-in-true-eq1 : goal.returns-in-true-eq1
unfolding program_row
returns-in-true-eq1 c = search tells_line

pub returns-in-true-default : goal.returns-in-true-default
unfolding program_row
returns-in-true-default c = search (tells_lines, c.in-true-default.is-1)

pub returns-in-false-eq1 : goal.returns-in-false-eq1
unfolding program_row
returns-in-false-eq1 c = search tells_line

pub returns-in-false-default : goal.returns-in-false-default
unfolding program_row
returns-in-false-default c = search (tells_lines, c.in-false-default.is-1)
