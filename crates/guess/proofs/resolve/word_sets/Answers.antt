-- `guess::resolve::word_sets` meets its contract.
-- Assumes nothing.
use Rattle.guess.proofs.Texts.{sets_guessed, sets_quiet, sets_tsb, sets_v2, sets_basic35}
use Rattle.guess.proofs.resolve.word_sets.Goals as goal

pub returns-in-BasicV2 : goal.returns-in-BasicV2
returns-in-BasicV2 c = search sets_v2

pub returns-in-Tsb : goal.returns-in-Tsb
returns-in-Tsb c = search sets_tsb

pub returns-in-Basic35 : goal.returns-in-Basic35
returns-in-Basic35 c = search sets_basic35

pub returns-else-not-text_evidence : goal.returns-else-not-text_evidence
returns-else-not-text_evidence c = search sets_guessed

pub returns-then-not-text_evidence : goal.returns-then-not-text_evidence
returns-then-not-text_evidence c = search sets_quiet
