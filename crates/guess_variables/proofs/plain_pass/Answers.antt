-- `guess_variables::plain_pass` meets its contract.
-- Assumes nothing.
use Rattle.guess_variables.proofs.Passes.{pass_quote, pass_other}
use Rattle.guess_places.proofs.Words.{letter_told}
use Rattle.guess_variables.proofs.plain_pass.Goals as goal

pub letter_pass-requires : goal.letter_pass-requires
letter_pass-requires c = search letter_told

pub returns-then-b-eq34 : goal.returns-then-b-eq34
returns-then-b-eq34 c = search pass_quote

pub returns-else-b-eq34 : goal.returns-else-b-eq34
returns-else-b-eq34 c = search (pass_other, c.if-b-eq34.false)
