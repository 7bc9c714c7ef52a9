-- `disk_sentences::track_of` meets its contract.
-- Assumes nothing.
use Rattle.disk_rules.specs.Places.{track_of}
use Rattle.disk_sectors.proofs.Geometry.{zone_1, zone_2, zone_3, zone_4}
use borrow.Author.Rules.{rules}
use Rattle.disk_sentences.proofs.track_of.Goals as goal

pub returns-in-0-to-356 : goal.returns-in-0-to-356
unfolding track_of
returns-in-0-to-356 c = search (rules, zone_1)

pub returns-in-357-to-489 : goal.returns-in-357-to-489
unfolding track_of
returns-in-357-to-489 c = search (rules, zone_2)

pub returns-in-490-to-597 : goal.returns-in-490-to-597
unfolding track_of
returns-in-490-to-597 c = search (rules, zone_3)

pub returns-in_default : goal.returns-in_default
unfolding track_of
returns-in_default c = search (rules, zone_4)
