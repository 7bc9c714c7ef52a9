-- `desk_image::finding::show_found` is safe and ends: what was stored lies within its buffer.
-- Assumes nothing.
use Rattle.desk_image.proofs.Stored.{stored_within, stored_count}
use Rattle.desk_image.proofs.finding.show_found.Goals as goal

pub slice_bounds-write_found-end : goal.slice_bounds-write_found-end
slice_bounds-write_found-end c = search stored_count

pub slice_bounds-row-end : goal.slice_bounds-row-end
slice_bounds-row-end c = search stored_within
