-- `disk_sectors::link_at` meets its contract.
-- Assumes nothing.
use mathlib.Core.Path.{◌∙◌}
use Rattle.disk_sectors.proofs.Geometry.{link_35}
use Rattle.disk_sectors.proofs.link_at.Goals as goal

pub returns : goal.returns
returns c = c.link_on.ensures ∙ link_35 _ _
