-- `crunch_read_back::crunch_and_read` meets its contract: the reader is lent the bytes that were stored.
-- Assumes nothing.
use Rattle.std.proofs.lemmas.Result.{err_from_is_err_and}
use Rattle.crunch_read_back.proofs.Stored.{image_fits, image_long, image_made, image_none}
use Rattle.crunch_read_back.proofs.crunch_and_read.Goals as goal

pub slice_bounds-check-end : goal.slice_bounds-check-end
slice_bounds-check-end c = image_fits _ _ c.in_ok-length.was c.crunch.ensures

pub slice_bounds-check-end-2 : goal.slice_bounds-check-end-2
slice_bounds-check-end-2 c = image_long _ _ c.in_ok-length.was c.crunch.ensures

pub returns-in_err-length : goal.returns-in_err-length
returns-in_err-length c =
    let p = err_from_is_err_and c.from_residual.result c.from_residual.ensures.1 in
    rw (p.1, p.2) (image_none _ _ c.in_err-length.was c.crunch.ensures)

pub returns : goal.returns
returns c = image_made _ _ _ c.check-read.ensures c.in_ok-length.was c.crunch.ensures
