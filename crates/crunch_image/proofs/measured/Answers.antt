-- `crunch_image::measured` meets its contract.
-- Assumes nothing.
use Rattle.std.proofs.lemmas.Result.{err_from_is_err_and}
use Rattle.crunch_image.proofs.Whole.{measured_fine, measured_outside}
use Rattle.crunch_image.proofs.measured.Goals as goal

pub returns-in_err-check_text : goal.returns-in_err-check_text
returns-in_err-check_text c =
    let p = err_from_is_err_and c.from_residual.result c.from_residual.ensures.1 in
    rw (p.1, p.2) (measured_outside _ _ _ c.in_err-check_text.was c.check_text.ensures)

pub returns : goal.returns
returns c = measured_fine _ _ _ c.measure.ensures c.text_sets-sets.ensures c.in_ok-check_text.was c.check_text.ensures
