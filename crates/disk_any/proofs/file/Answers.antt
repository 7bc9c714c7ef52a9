-- `disk_any::file` meets its contract.
-- Assumes nothing.
use Rattle.disk_any.proofs.Sizes.{kind_holds}
use Rattle.disk_any.proofs.Answers.{on_within, file_on_lem, file_off, file_none}
use Rattle.disk_any.proofs.file.Goals as goal

pub file_on-requires : goal.file_on-requires
file_on-requires c = search (kind_holds, on_within)

pub returns-in-Some : goal.returns-in-Some
returns-in-Some c = search file_on_lem

pub returns-in-None : goal.returns-in-None
returns-in-None c = search file_off

pub returns-in_default : goal.returns-in_default
returns-in_default c = file_none c.args.disk.now c.args.place c.args.out.now c.disk_kind.ensures c.in_default.not-D64
