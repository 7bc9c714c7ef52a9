-- `guess_variables::word_pass` meets its contract.
-- Assumes nothing.
use Rattle.guess_variables.proofs.Passes.{pass_nothing, name_within_lem, pass_name, pass_word}
use Rattle.guess_variables.proofs.word_pass.Goals as goal

pub is_name-requires : goal.is_name-requires
is_name-requires c = search name_within_lem

pub returns-then-is_name : goal.returns-then-is_name
returns-then-is_name c = search pass_name

pub returns-else-is_name : goal.returns-else-is_name
returns-else-is_name c = search pass_word

pub returns-in-None : goal.returns-in-None
returns-in-None c = search pass_nothing
