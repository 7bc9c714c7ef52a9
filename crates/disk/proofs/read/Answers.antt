-- `disk::read` meets its contract.
-- Assumes nothing.
use Rattle.std.proofs.lemmas.Result.{err_from_is_err_and}
use mathlib.Core.Path.{refl}
use Rattle.disk.proofs.Calling.{found_long, found_in, read_at_lem, read_refused}
use Rattle.disk.proofs.read.Goals as goal

pub read_entry-requires : goal.read_entry-requires
read_entry-requires c = (found_long c.in_ok-p.ensures refl, found_in c.in_ok-p.ensures refl)

pub returns : goal.returns
returns c = read_at_lem c.in_ok-p.ensures c.args.out.now refl c.read_entry.ensures

pub returns-in_err-p : goal.returns-in_err-p
returns-in_err-p c =
    let p = err_from_is_err_and c.from_residual.result c.from_residual.ensures.1 in rw (p.1, p.2) (read_refused c.in_err-p.ensures refl)
