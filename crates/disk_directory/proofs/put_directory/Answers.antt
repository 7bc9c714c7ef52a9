-- `disk_directory::put_directory` meets its contract.
-- Assumes nothing.
use mathlib.Core.Path.{refl, sym}
use native.Mathlib.Omega.{arith}
use lib.Seq.{length-take-le}
use Rattle.disk_directory.proofs.Lining.{long_put, saw_sound, saw_many, look_files, text_put}
use Rattle.disk_directory.proofs.put_directory.Goals as goal

pub returns-then-disk-ne174848 : goal.returns-then-disk-ne174848
returns-then-disk-ne174848 c = search (long_put, c.if-disk-ne174848.true)

pub returns-in_default : goal.returns-in_default
returns-in_default c = (c.in_default.ensures, refl, refl)

pub slice_bounds-put_files-end : goal.slice_bounds-put_files-end
slice_bounds-put_files-end c = sym (length-take-le _ _ (omega (arith, saw_many c.in-Some.ensures)))

pub put_files-at-requires : goal.put_files-at-requires
put_files-at-requires c = (c.if-disk-ne174848.false, saw_sound c.in-Some.ensures, look_files c.in-Some.ensures)

pub returns : goal.returns
returns c = (saw_sound c.in-Some.ensures, text_put c.in-Some.ensures c.put_files-at.ensures c.put_free.ensures)
