-- `body_steps::step::step` meets its contract.
-- Assumes nothing.
use Rattle.body_steps.proofs.Braces.{reaches_brace}
use Rattle.body_rules.proofs.ShortSteps.{rest_some, rest_pi, rest_letter, long_brace, long_pi, long_letter}
use Rattle.body_steps.proofs.step.step.Goals as goal

pub brace_step-requires : goal.brace_step-requires
brace_step-requires c = search reaches_brace

pub returns-in-123 : goal.returns-in-123
returns-in-123 c = search long_brace

pub from_pi-requires : goal.from_pi-requires
from_pi-requires c = search (rest_some, rest_pi)

pub returns-in-207 : goal.returns-in-207
returns-in-207 c = search long_pi

pub letter_step-requires : goal.letter_step-requires
letter_step-requires c = search (rest_some, rest_letter)

pub returns-in_default : goal.returns-in_default
returns-in_default c = search long_letter
