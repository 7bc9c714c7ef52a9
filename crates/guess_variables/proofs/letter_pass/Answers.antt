-- `guess_variables::letter_pass` meets its contract.
-- Assumes nothing.
use Rattle.guess_variables.proofs.Passes.{letter_remark, letter_data, letter_word}
use Rattle.guess_uses.proofs.Behind.{rest_some}
use Rattle.guess_variables.proofs.letter_pass.Goals as goal

pub begins_rem-requires : goal.begins_rem-requires
begins_rem-requires c = search rest_some

pub returns-then-begins_rem : goal.returns-then-begins_rem
returns-then-begins_rem c = search letter_remark

pub begins_data-requires : goal.begins_data-requires
begins_data-requires c = search rest_some

pub returns-then-begins_data : goal.returns-then-begins_data
returns-then-begins_data c = search letter_data

pub returns : goal.returns
returns c = search letter_word
