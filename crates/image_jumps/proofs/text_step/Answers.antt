-- `image_jumps::text_step` meets its contract.
-- Assumes nothing.
use Rattle.image_jumps.proofs.Opening.{opens_told, begins_told}
use Rattle.image_jumps.proofs.Stepping.{text_list, text_unit}
use borrow.Author.Rules.{rules}
use Rattle.image_jumps.proofs.text_step.Goals as goal

pub unit_step-requires : goal.unit_step-requires
unit_step-requires c = search (opens_told, rules)

pub returns-in-Some : goal.returns-in-Some
returns-in-Some c = search (text_list, begins_told)

pub returns-in-None : goal.returns-in-None
returns-in-None c = search text_unit
