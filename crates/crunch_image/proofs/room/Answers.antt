-- `crunch_image::room` meets its contract.
-- Assumes nothing.
use Rattle.std.proofs.lemmas.Result.{err_from_is_err_and}
use Rattle.crunch_image.proofs.Whole.{room_told}
use Rattle.crunch_image.proofs.room.Goals as goal

pub returns-in_err-pass : goal.returns-in_err-pass
returns-in_err-pass c =
    let p = err_from_is_err_and c.from_residual.result c.from_residual.ensures.1 in
    rw (p.1, p.2) (room_told _ _ _ c.in_err-pass.was c.measured.ensures)

pub returns : goal.returns
returns c = room_told _ _ _ c.in_ok-pass.was c.measured.ensures
