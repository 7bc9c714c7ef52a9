-- `disk_any::directory_stop` meets its contract.
-- Assumes nothing.
use Rattle.disk_any.proofs.Sizes.{kind_holds}
use Rattle.disk_any.proofs.Answers.{stop_told, stop_none}
use Rattle.disk_any.proofs.directory_stop.Goals as goal

pub stop_on-requires : goal.stop_on-requires
stop_on-requires c = search kind_holds

pub returns-in-D64 : goal.returns-in-D64
returns-in-D64 c = search stop_told

pub returns-in_default : goal.returns-in_default
returns-in_default c = stop_none c.args.disk.now c.disk_kind.ensures c.in_default.not-D64
