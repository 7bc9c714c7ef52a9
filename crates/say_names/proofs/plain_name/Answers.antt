-- `say_names::plain_name` meets its contract.
-- Assumes nothing.
use Rattle.say_names.proofs.Splitting.{plain_named}
use Rattle.say_names.proofs.plain_name.Goals as goal

pub returns : goal.returns
returns c = search plain_named
