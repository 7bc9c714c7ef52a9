-- `disk_names::character` meets its contract.
-- Assumes nothing.
use Rattle.disk_names.proofs.Naming.{character_is, character_none}
use Rattle.disk_names.proofs.character.Goals as goal

pub returns-then-between : goal.returns-then-between
returns-then-between c = search character_is

pub returns : goal.returns
returns c = search character_none
