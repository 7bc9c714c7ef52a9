-- `image_faults::memory_fault` meets its contract.
-- Assumes nothing.
use Rattle.image_faults.proofs.Telling.{memory_none, memory_told}
use Rattle.image_faults.proofs.memory_fault.Goals as goal

pub returns-then-is_in_basic_memory : goal.returns-then-is_in_basic_memory
returns-then-is_in_basic_memory c = search memory_none

pub returns : goal.returns
returns c = search memory_told
