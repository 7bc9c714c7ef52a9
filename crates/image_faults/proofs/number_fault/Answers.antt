-- `image_faults::number_fault` meets its contract.
-- Assumes nothing.
use Rattle.image_faults.proofs.Telling.{number_told, number_none}
use Rattle.image_faults.proofs.number_fault.Goals as goal

pub returns-then-is_too_high : goal.returns-then-is_too_high
returns-then-is_too_high c = search number_told

pub returns : goal.returns
returns c = search number_none
