-- `disk_entries::entry_at` meets its contract.
-- Assumes nothing.
use Rattle.disk_entries.proofs.Placing.{entry_fits, entry_fits_2, entry_fits_3, entry_room}
use Rattle.disk_entries.proofs.entry_at.Goals as goal

pub overflow_mul-result : goal.overflow_mul-result
overflow_mul-result c = search entry_fits

pub overflow_add-result : goal.overflow_add-result
overflow_add-result c = search entry_fits_2

pub overflow_add-result-2 : goal.overflow_add-result-2
overflow_add-result-2 c = search entry_fits_3

pub returns : goal.returns
returns c = search entry_room
