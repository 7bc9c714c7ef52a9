-- `desk_image::finding::tell_missing` is safe and ends: what was stored lies within its buffer.
-- Assumes nothing.
use Rattle.desk_image.proofs.Stored.{stored_within, stored_count}
use Rattle.desk_image.proofs.finding.tell_missing.Goals as goal

pub slice_bounds-tell-end : goal.slice_bounds-tell-end
slice_bounds-tell-end c = search stored_count

pub slice_bounds-row-end : goal.slice_bounds-row-end
slice_bounds-row-end c = search stored_within
