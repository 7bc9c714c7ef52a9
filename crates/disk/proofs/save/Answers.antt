-- `disk::save` meets its contract.
-- Assumes nothing.
use Rattle.std.proofs.lemmas.Result.{err_from_is_err_and}
use mathlib.Core.Path.{refl, sym}
use native.Mathlib.Omega.{arith}
use lib.Seq.{length-take-le}
use Rattle.disk.proofs.Locating.{known_size, known_short, known_few, known_long, known_chain}
use Rattle.disk.proofs.Saving.{save_taken, save_full, save_on, save_refused}
use Rattle.disk.proofs.save.Goals as goal

pub returns-then-is_some : goal.returns-then-is_some
returns-then-is_some c = search (save_taken c.args.disk.now c.args.name.now c.args.image.now c.in_ok-sought.ensures refl)

pub returns-then-sought-gt143 : goal.returns-then-sought-gt143
returns-then-sought-gt143 c = search (save_full c.args.disk.now c.args.name.now c.args.image.now c.in_ok-sought.ensures refl)

pub slice_bounds-sectors-end : goal.slice_bounds-sectors-end
slice_bounds-sectors-end c = known_few c.in_ok-sought.ensures refl (omega arith)

pub slice_bounds-save_new-end : goal.slice_bounds-save_new-end
slice_bounds-save_new-end c = sym (length-take-le _ _ (known_few c.in_ok-sought.ensures refl (omega arith)))

pub save_new-requires : goal.save_new-requires
save_new-requires c =
    (known_size c.in_ok-sought.ensures refl, known_chain c.in_ok-sought.ensures refl, known_long c.in_ok-sought.ensures refl, known_short c.in_ok-sought.ensures refl)

pub returns-in_err-sought : goal.returns-in_err-sought
returns-in_err-sought c =
    let p = err_from_is_err_and c.from_residual.result c.from_residual.ensures.1 in rw (p.1, p.2) (save_refused c.args.disk.now c.args.name.now c.args.image.now c.in_err-sought.ensures refl)

pub returns : goal.returns
returns c = search (save_on c.args.disk.now c.args.name.now c.args.image.now c.in_ok-sought.ensures refl)
