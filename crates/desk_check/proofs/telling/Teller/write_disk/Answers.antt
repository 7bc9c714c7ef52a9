-- `desk_check::telling::Teller::write_disk` is safe and ends: the line lies within its buffer.
-- Assumes nothing.
use Rattle.desk.proofs.Results.{result_held}
use Rattle.desk_check.proofs.telling.Teller.write_disk.Goals as goal

pub write_told-requires : goal.write_told-requires
write_told-requires c = search result_held
