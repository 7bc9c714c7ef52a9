-- `image_faults::order_fault` meets its contract.
-- Assumes nothing.
use Rattle.image_faults.proofs.Telling.{order_told, order_none}
use Rattle.image_faults.proofs.order_fault.Goals as goal

pub returns-then-is_not_ascending : goal.returns-then-is_not_ascending
returns-then-is_not_ascending c = search order_told

pub returns : goal.returns
returns c = search order_none
