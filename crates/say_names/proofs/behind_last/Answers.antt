-- `say_names::behind_last` meets its contract.
-- Assumes nothing.
use Rattle.say_names.proofs.Splitting.{mark_within, split_behind, behind_none}
use Rattle.say_names.proofs.behind_last.Goals as goal

pub behind-requires : goal.behind-requires
behind-requires c = search mark_within

pub returns-in-Some : goal.returns-in-Some
returns-in-Some c = search split_behind

pub returns-in-None : goal.returns-in-None
returns-in-None c = search behind_none
