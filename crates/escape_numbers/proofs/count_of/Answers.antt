-- `escape_numbers::count_of` meets its contract.
-- Assumes nothing.
use Rattle.escape_numbers.proofs.Numbering.{count_is}
use Rattle.escape_numbers.proofs.count_of.Goals as goal

pub returns : goal.returns
returns c = search count_is
