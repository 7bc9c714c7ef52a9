-- `desk_image::places::show_text` is safe and ends: the image lies within its buffer.
-- Assumes nothing.
use Rattle.desk_image.proofs.Stored.{stored_within, stored_count}
use Rattle.desk_image.proofs.places.show_text.Goals as goal

pub slice_bounds-show_origins-end : goal.slice_bounds-show_origins-end
slice_bounds-show_origins-end c = search stored_count

pub slice_bounds-image-end : goal.slice_bounds-image-end
slice_bounds-image-end c = search stored_within
