-- `list_image::list_measured` meets its contract: what is measured decides between the three cases.
-- Assumes nothing.
use Rattle.std.proofs.lemmas.Result.{err_from_is_err_and}
use Rattle.list_image.proofs.Whole.{room_there, no_room_lem, no_listing}
use Rattle.list_image.proofs.list_measured.Goals as goal

pub returns-in_err-needed : goal.returns-in_err-needed
returns-in_err-needed c = let p = err_from_is_err_and c.from_residual.result c.from_residual.ensures.1 in rw (p.1, p.2) (search (no_listing, c.in_err-needed.was))

pub returns-then-needed-out : goal.returns-then-needed-out
returns-then-needed-out c = search (no_room_lem, c.in_ok-needed.was)

pub write-requires : goal.write-requires
write-requires c = search (room_there, c.in_ok-needed.was)
