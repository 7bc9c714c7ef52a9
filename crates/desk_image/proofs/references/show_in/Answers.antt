-- `desk_image::references::show_in` is safe and ends: the index lies within its buffer.
-- Assumes nothing.
use Rattle.desk_image.proofs.Stored.{stored_within, stored_count}
use Rattle.desk_image.proofs.references.show_in.Goals as goal

pub slice_bounds-show_index-end-in-Ok : goal.slice_bounds-show_index-end-in-Ok
slice_bounds-show_index-end-in-Ok c = search stored_count

pub slice_bounds-show_index-end : goal.slice_bounds-show_index-end
slice_bounds-show_index-end c = search stored_within
