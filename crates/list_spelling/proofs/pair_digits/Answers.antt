-- `list_spelling::pair_digits` meets its contract.
-- Assumes nothing.
use Rattle.list_spelling.proofs.Spelling.{pair_digits}
use Rattle.list_spelling.proofs.pair_digits.Goals as goal

pub returns : goal.returns
returns c = search pair_digits
