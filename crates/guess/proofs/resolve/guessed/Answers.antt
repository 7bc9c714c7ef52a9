-- `guess::resolve::guessed` meets its contract.
-- Assumes nothing.
use Rattle.guess.proofs.Texts.{auto_tsb, auto_v2, as_given}
use Rattle.guess.proofs.resolve.guessed.Goals as goal

pub returns-then-text_evidence : goal.returns-then-text_evidence
returns-then-text_evidence c = search auto_tsb

pub returns-else-text_evidence : goal.returns-else-text_evidence
returns-else-text_evidence c = search auto_v2

pub returns-in_default : goal.returns-in_default
returns-in_default c = as_given _ _ c.in_default.not-Auto
