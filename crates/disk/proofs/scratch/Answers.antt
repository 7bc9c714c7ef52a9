-- `disk::scratch` meets its contract.
-- Assumes nothing.
use Rattle.std.proofs.lemmas.Result.{err_from_is_err_and}
use mathlib.Core.Path.{refl}
use Rattle.disk.proofs.Calling.{found_long, found_in, scratch_at, scratch_refused}
use Rattle.disk.proofs.scratch.Goals as goal

pub scratch_entry-requires : goal.scratch_entry-requires
scratch_entry-requires c = (found_long c.in_ok-p.ensures refl, found_in c.in_ok-p.ensures refl)

pub returns : goal.returns
returns c = scratch_at c.in_ok-p.ensures refl c.scratch_entry.ensures

pub returns-in_err-p : goal.returns-in_err-p
returns-in_err-p c =
    let p = err_from_is_err_and c.from_residual.result c.from_residual.ensures.1 in rw (p.1, p.2) (scratch_refused c.in_err-p.ensures refl)
