-- `disk_any::seek` meets its contract.
-- Assumes nothing.
use Rattle.disk_any.proofs.Locating.{seek_start, seek_mul, seek_in, seek_fits, seek_fits_2, seek_fits_3, seek_room, seek_out, seek_found, seek_turn, seek_end}
use borrow.Author.Rules.{rules}
use Rattle.disk_any.proofs.seek.Goals as goal
use Rattle.disk_any.proofs.seek.Goals.{then-disk-p-ne0+else-left-eq0, else-disk-p-ne0}

pub overflow_mul-end : goal.overflow_mul-end
overflow_mul-end c = search seek_mul

pub loop-next-init : goal.loop-next-init
loop-next-init c = search seek_start

pub bounds-sectors-next : goal.bounds-sectors-next
bounds-sectors-next c = search (rules, seek_in)

pub overflow_mul-p : goal.overflow_mul-p
overflow_mul-p c = search seek_fits

pub overflow_add-p : goal.overflow_add-p
overflow_add-p c = search seek_fits_2

pub overflow_add-p-in-loop-next : goal.overflow_add-p-in-loop-next
overflow_add-p-in-loop-next c = search seek_fits_3

pub bounds-disk-p : goal.bounds-disk-p
bounds-disk-p c = search seek_room

pub returns-then-left-eq0 : goal.returns-then-left-eq0
returns-then-left-eq0 c = search (seek_found, c.if-disk-p-ne0.true)

pub loop-next-preserved : goal.loop-next-preserved
loop-next-preserved c =
    elim c.if-disk-p-ne0.branch
    [ then-disk-p-ne0+else-left-eq0 w ↦ rw w.left-is (search (seek_turn, w.if-disk-p-ne0.true, w.if-left-eq0.false)) | else-disk-p-ne0 w ↦ rw w.left-is (search seek_out) ]

pub returns : goal.returns
returns c = search seek_end
