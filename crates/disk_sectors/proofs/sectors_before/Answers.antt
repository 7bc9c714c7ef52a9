-- `disk_sectors::sectors_before` meets its contract.
-- Assumes nothing.
use Rattle.disk_rules.specs.Places.{sectors_before}
use Rattle.disk_sectors.proofs.Geometry.{zone_1, zone_2, zone_3, zone_4}
use borrow.Author.Rules.{rules}
use Rattle.disk_sectors.proofs.sectors_before.Goals as goal

pub returns-in-0-to-17 : goal.returns-in-0-to-17
unfolding sectors_before
returns-in-0-to-17 c = search (rules, zone_1)

pub returns-in-18-to-24 : goal.returns-in-18-to-24
unfolding sectors_before
returns-in-18-to-24 c = search (rules, zone_2)

pub returns-in-25-to-30 : goal.returns-in-25-to-30
unfolding sectors_before
returns-in-25-to-30 c = search (rules, zone_3)

pub returns-in_default : goal.returns-in_default
unfolding sectors_before
returns-in_default c = search (rules, zone_4)
