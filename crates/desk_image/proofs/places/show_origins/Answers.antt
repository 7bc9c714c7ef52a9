-- `desk_image::places::show_origins` is safe and ends: the text lines lie within their array.
-- Assumes nothing.
use Rattle.desk.proofs.Within.{stored_count}
use Rattle.desk_image.proofs.places.show_origins.Goals as goal

pub slice_bounds-show_lines-end : goal.slice_bounds-show_lines-end
slice_bounds-show_lines-end c = search stored_count
