-- `desk_check::walk` is safe and ends.
-- Assumes nothing.
use Rattle.desk_check.proofs.Fewer.{fewer_left}
use Rattle.desk_check.proofs.walk.Goals as goal

pub loop-found-smaller : goal.loop-found-smaller
loop-found-smaller c = search fewer_left
