-- `image_jumps::last` meets its contract.
-- Assumes nothing.
use Rattle.image_jumps.proofs.Stepping.{last_text, last_none, last_worth}
use Rattle.image_jumps.proofs.last.Goals as goal

pub returns-in-Some : goal.returns-in-Some
returns-in-Some c = search last_worth

pub returns-in_default : goal.returns-in_default
returns-in_default c = search last_text

pub returns-in_default-2 : goal.returns-in_default-2
returns-in_default-2 c = search last_none
