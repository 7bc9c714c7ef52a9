-- `list_spelling::put_ends` meets its contract.
-- Assumes nothing.
use Rattle.list_spelling.proofs.Copying.{ends_stored}
use Rattle.list_spelling.proofs.put_ends.Goals as goal

pub returns : goal.returns
returns g c = rw (c.put_front-2.ensures, c.put_front.ensures) (ends_stored _ _ _ _ c.requires.1 c.requires.2)
