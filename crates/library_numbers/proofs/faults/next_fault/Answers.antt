-- `library_numbers::faults::next_fault` meets its contract.
-- Assumes nothing.
use Rattle.library_numbers.proofs.Walking.{tells_next}
use Rattle.library_numbers.proofs.faults.next_fault.Goals as goal

pub returns : goal.returns
returns c = search tells_next
