-- `library_numbers::faults::start` meets its contract.
-- Assumes nothing.
use Rattle.library_numbers.proofs.Walking.{starts}
use Rattle.library_numbers.proofs.faults.start.Goals as goal

pub returns : goal.returns
returns c = search starts
