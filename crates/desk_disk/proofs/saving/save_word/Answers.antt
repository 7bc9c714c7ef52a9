-- `desk_disk::saving::save_word` is safe and ends: the name lies within its buffer.
-- Assumes nothing.
use Rattle.desk.proofs.Within.{stored_count}
use Rattle.desk_disk.proofs.saving.save_word.Goals as goal

pub slice_bounds-save_file-end : goal.slice_bounds-save_file-end
slice_bounds-save_file-end c = search stored_count
