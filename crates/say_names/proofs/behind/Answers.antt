-- `say_names::behind` meets its contract.
-- Assumes nothing.
use Rattle.say_names.proofs.Splitting.{part_behind}
use Rattle.say_names.proofs.behind.Goals as goal

pub returns : goal.returns
returns c = search part_behind
