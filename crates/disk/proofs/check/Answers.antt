-- `disk::check` meets its contract.
-- Assumes nothing.
use Rattle.disk.proofs.Calling.{check_long, check_unsound, check_sound}
use Rattle.disk.proofs.check.Goals as goal

pub returns-then-disk-ne174848 : goal.returns-then-disk-ne174848
returns-then-disk-ne174848 c = search (check_long, c.if-disk-ne174848.true)

pub returns-in_default : goal.returns-in_default
returns-in_default c = check_unsound c.args.disk.now c.in_default.ensures

pub returns : goal.returns
returns c = check_sound c.in-Some.ensures c.free_sectors-free.ensures
