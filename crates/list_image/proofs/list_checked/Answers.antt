-- `list_image::list_checked` meets its contract: what is read to its end has room.
-- Assumes nothing.
use Rattle.std.proofs.lemmas.Result.{err_from_is_err_and}
use Rattle.list_image.proofs.Longest.{ninefold_room, ninefold_refused}
use Rattle.list_image.proofs.list_checked.Goals as goal

pub write-requires : goal.write-requires
write-requires c = ninefold_room _ _ _ _ c.check_by.ensures c.in_ok-check_by.was c.requires c.type_inv.image

pub returns-in_err-check_by : goal.returns-in_err-check_by
returns-in_err-check_by c = let p = err_from_is_err_and c.from_residual.result c.from_residual.ensures.1 in rw (p.1, p.2) (search (ninefold_refused, c.in_err-check_by.was))
