-- `disk::locate` meets its contract.
-- Assumes nothing.
use Rattle.std.proofs.lemmas.Result.{err_from_is_err_and}
use mathlib.Core.Path.{refl}
use Rattle.disk.proofs.Locating.{locate_told, locate_refused}
use Rattle.disk.proofs.locate.Goals as goal

pub returns-in_err-sought : goal.returns-in_err-sought
returns-in_err-sought c =
    let p = err_from_is_err_and c.from_residual.result c.from_residual.ensures.1 in rw (p.1, p.2) (locate_refused c.in_err-sought.ensures refl)

pub returns : goal.returns
returns c = locate_told c.in_ok-sought.ensures refl c.ok_or.ensures.value
