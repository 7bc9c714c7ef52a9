-- `disk_any::name` meets its contract.
-- Assumes nothing.
use Rattle.disk_any.proofs.Answers.{on_within, on_name, off_name}
use Rattle.disk_any.proofs.name.Goals as goal

pub name_at-requires : goal.name_at-requires
name_at-requires c = search on_within

pub returns-in-Some : goal.returns-in-Some
returns-in-Some c = search on_name

pub returns-in-None : goal.returns-in-None
returns-in-None c = search off_name
