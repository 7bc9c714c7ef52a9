-- `guess_evidence::letter_step` meets its contract.
-- Assumes nothing.
use Rattle.guess_evidence.proofs.Steps.{letter_remark, letter_data, letter_proved, letter_on}
use Rattle.guess_evidence.proofs.letter_step.Goals as goal

pub returns-then-begins_rem : goal.returns-then-begins_rem
returns-then-begins_rem c = search letter_remark

pub returns-then-begins_data : goal.returns-then-begins_data
returns-then-begins_data c = search letter_data

pub returns-then-word_proves : goal.returns-then-word_proves
returns-then-word_proves c = search letter_proved

pub returns-else-word_proves : goal.returns-else-word_proves
returns-else-word_proves c = search letter_on
