-- `image_fitness::lead` meets its contract.
-- Assumes nothing.
use Rattle.image_fitness.proofs.Moving.{led_fault, led_on}
use Rattle.image_fitness.proofs.lead.Goals as goal

pub returns-in-Some : goal.returns-in-Some
returns-in-Some c = search led_fault

pub returns-in-None : goal.returns-in-None
returns-in-None c = search led_on
