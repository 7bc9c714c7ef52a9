-- `guess_evidence::word_proves` meets its contract.
-- Assumes nothing.
use Rattle.guess_evidence.proofs.Steps.{word_proves_lem, no_word_proves, word_within}
use Rattle.guess_evidence.proofs.word_proves.Goals as goal

pub proves-requires : goal.proves-requires
proves-requires c = search word_within

pub returns-in-Some : goal.returns-in-Some
returns-in-Some c = search word_proves_lem

pub returns-in-None : goal.returns-in-None
returns-in-None c = search no_word_proves
