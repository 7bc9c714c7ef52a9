-- `crunch_image::into_buffer` meets its contract: the bound, or what is measured, decides.
-- Assumes nothing.
use Rattle.std.proofs.lemmas.Result.{err_from_is_err_and}
use Rattle.std.specs.Prelude.{Ok}
use Rattle.crunch_image.proofs.Whole.{fits_room, fits_put, room_short, room_enough, room_put, room_refused}
use Rattle.crunch_image.proofs.into_buffer.Goals as goal

pub write-requires : goal.write-requires
write-requires c = search fits_room

pub returns-then-fits : goal.returns-then-fits
returns-then-fits c = search fits_put

pub returns-in_err-needed : goal.returns-in_err-needed
returns-in_err-needed c =
    let p = err_from_is_err_and c.from_residual.result c.from_residual.ensures.1 in
    rw (p.1, p.2) (room_refused _ _ _ _ _ c.measure.ensures c.in_err-needed.was)

pub returns-then-needed-out : goal.returns-then-needed-out
returns-then-needed-out c = room_short _ _ _ _ _ c.measure.ensures c.in_ok-needed.was c.if-needed-out.true

pub write-requires-2 : goal.write-requires-2
write-requires-2 c = room_enough _ _ _ _ _ c.measure.ensures c.in_ok-needed.was c.if-needed-out.false

pub returns : goal.returns
returns c = room_put _ _ _ _ _ c.measure.ensures c.in_ok-needed.was (Ok c.write-2.result) c.write-2.ensures
