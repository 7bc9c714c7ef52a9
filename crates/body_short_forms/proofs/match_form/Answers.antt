-- `body_short_forms::match_form` meets its contract.
-- Assumes nothing.
use Rattle.body_short_forms.proofs.Standing.{forms_off, forms_behind, forms_on}
use Rattle.body_short_forms.proofs.match_form.Goals.{then-not-sets-via-then-not-sets, then-not-sets-via-else-not-sets+then-tsb_there}
use Rattle.body_short_forms.proofs.match_form.Goals as goal

pub returns-then-not-sets : goal.returns-then-not-sets
returns-then-not-sets c =
    elim c.then-not-sets.branch [
      | then-not-sets-via-then-not-sets w ↦ forms_off _ _ w.if-not-sets.true
      | then-not-sets-via-else-not-sets+then-tsb_there w ↦ forms_behind _ _ w.if-tsb_there.true w.tsb_there.ensures w.if-not-sets.false
    ]

pub returns : goal.returns
returns c = search forms_on
