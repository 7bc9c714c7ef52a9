-- `disk_names::put_byte` meets its contract.
-- Assumes nothing.
use Rattle.disk_names.proofs.Showing.{shown_itself, shown_braced}
use Rattle.disk_names.proofs.put_byte.Goals as goal

pub returns-then-is_shown : goal.returns-then-is_shown
returns-then-is_shown c = search shown_itself

pub returns : goal.returns
returns c = search shown_braced
