-- `body_steps::plain::letter_step` meets its contract.
-- Assumes nothing.
use Rattle.body_rules.proofs.PlainSteps.{letter_tsb, letter_plain, letter_left}
use Rattle.body_steps.proofs.plain.letter_step.Goals as goal

pub returns-in-Some : goal.returns-in-Some
returns-in-Some c = search letter_tsb

pub returns-in-Some-match_plain : goal.returns-in-Some-match_plain
returns-in-Some-match_plain c = search letter_plain

pub returns : goal.returns
returns c = search letter_left
