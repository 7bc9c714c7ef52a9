-- `image_faults::length_fault` meets its contract.
-- Assumes nothing.
use Rattle.image_faults.proofs.Telling.{line_runs, length_told, length_none}
use Rattle.image_faults.proofs.length_fault.Goals as goal

pub overflow_sub-length : goal.overflow_sub-length
overflow_sub-length c = search line_runs

pub returns-then-is_bad_length : goal.returns-then-is_bad_length
returns-then-is_bad_length c = search length_told

pub returns : goal.returns
returns c = search length_none
