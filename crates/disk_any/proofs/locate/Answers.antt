-- `disk_any::locate` meets its contract.
-- Assumes nothing.
use Rattle.disk_any.proofs.Sizes.{kind_holds}
use Rattle.disk_any.proofs.Locating.{located, located_none}
use Rattle.disk_any.proofs.locate.Goals as goal

pub locate_on-requires : goal.locate_on-requires
locate_on-requires c = search kind_holds

pub returns-in-D64 : goal.returns-in-D64
returns-in-D64 c = search located

pub returns-in_default : goal.returns-in_default
returns-in_default c = located_none c.args.disk.now c.disk_kind.ensures c.args.place c.in_default.not-D64
