-- `desk_check::disks::check_named` is safe and ends.
-- Assumes nothing.
use Rattle.desk_check.proofs.Held.{read_within, read_whole}
use Rattle.desk_check.proofs.disks.check_named.Goals as goal

pub slice_bounds-file-end : goal.slice_bounds-file-end
slice_bounds-file-end c = search read_within

pub slice_bounds-check_program-end : goal.slice_bounds-check_program-end
slice_bounds-check_program-end c = search read_whole
