-- `disk_bytes::lay` meets its contract.
-- Assumes nothing.
use Rattle.disk_bytes.proofs.Laying.{lay_start, lay_long, lay_below, lay_next, lay_part, lay_rest, lay_turn, lay_last, lay_end}
use Rattle.disk_bytes.proofs.lay.Goals as goal
use Rattle.disk_bytes.proofs.lay.Goals.{then-i-list, else-i-list}

pub loop-i-init : goal.loop-i-init
loop-i-init c = search lay_start

pub track_of-track-requires : goal.track_of-track-requires
track_of-track-requires c = search lay_next

pub sector_of-sector-requires : goal.sector_of-sector-requires
sector_of-sector-requires c = search lay_next

pub write_sector-requires : goal.write_sector-requires
write_sector-requires c = search (lay_long, lay_below, lay_part)

pub write_sector-requires-else-i-list : goal.write_sector-requires-else-i-list
write_sector-requires-else-i-list c = search (lay_long, lay_below, lay_rest)

pub loop-i-preserved : goal.loop-i-preserved
loop-i-preserved c =
    elim c.if-i-list.branch [ then-i-list w ↦ rw w.disk-is (search lay_turn) | else-i-list w ↦ rw w.disk-is (search lay_last) ]

pub returns : goal.returns
returns c = search lay_end
