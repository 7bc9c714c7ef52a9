-- `disk_names::text_of` meets its contract.
-- Assumes nothing.
use Rattle.say_names.proofs.Splitting.{mark_within}
use Rattle.disk_names.proofs.Splitting.{text_named, text_unnamed}
use Rattle.disk_names.proofs.text_of.Goals as goal

pub behind-requires : goal.behind-requires
behind-requires c = search mark_within

pub returns-in-Some : goal.returns-in-Some
returns-in-Some c = search text_named

pub returns-in-None : goal.returns-in-None
returns-in-None c = search text_unnamed
