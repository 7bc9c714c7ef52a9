-- `body_steps::plain::form_step` meets its contract.
-- Assumes nothing.
use Rattle.body_rules.proofs.Beginnings.{document_proper}
use Rattle.body_rules.proofs.PlainSteps.{letter_alone, letter_form, letter_other}
use Rattle.body_steps.proofs.plain.form_step.Goals as goal
use Rattle.body_steps.proofs.plain.form_step.Goals.{else-sets-via-else-sets, else-sets-via-then-sets+in-None-1}

pub returns : goal.returns
returns c = search letter_form

pub returns-2 : goal.returns-2
returns-2 c =
    elim c.else-sets.branch [
      | else-sets-via-else-sets w ↦ search (letter_alone, document_proper)
      | else-sets-via-then-sets+in-None-1 w ↦ search (letter_other, document_proper)
    ]
