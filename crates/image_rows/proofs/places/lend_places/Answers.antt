-- `image_rows::places::lend_places` meets its contract.
-- Assumes nothing.
use Rattle.std.proofs.lemmas.Result.{err_from_is_err_and}
use Rattle.image_rows.proofs.Placing.{checked_text_lem, checked_none}
use Rattle.image_rows.proofs.places.lend_places.Goals as goal

pub lend_checked-requires : goal.lend_checked-requires
lend_checked-requires c = search (checked_text_lem, c.in_ok-check_by.was)

pub returns-in_err-check_by : goal.returns-in_err-check_by
returns-in_err-check_by c = let p = err_from_is_err_and c.from_residual.result c.from_residual.ensures.1 in rw (p.1, p.2) (search (checked_none, c.in_err-check_by.was))
