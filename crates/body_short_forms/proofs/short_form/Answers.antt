-- `body_short_forms::short_form` meets its contract.
-- Assumes nothing.
use Rattle.body_short_forms.proofs.Standing.{cut_count, form_found, form_none}
use Rattle.body_short_forms.proofs.short_form.Goals as goal

pub slice_bounds-form_letters-end : goal.slice_bounds-form_letters-end
slice_bounds-form_letters-end c = search cut_count

pub returns-in_err-found : goal.returns-in_err-found
returns-in_err-found c = search (form_none, c.in_err-found.ensures)

pub returns : goal.returns
returns c = search (form_found, c.in_ok-found.ensures)
