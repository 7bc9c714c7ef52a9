-- `disk_sectors::link_to` meets its contract.
-- Assumes nothing.
use native.Mathlib.Omega.{arith}
use Rattle.disk_sectors.proofs.Geometry.{link_last, link_far, link_none, link_to_lem}
use Rattle.disk_sectors.proofs.link_to.Goals as goal

pub returns-then-track-eq0 : goal.returns-then-track-eq0
returns-then-track-eq0 c = link_last _ _ _ (omega arith)

pub returns-then-t-tracks : goal.returns-then-t-tracks
returns-then-t-tracks c = link_far _ _ _ (omega arith) c.from-t.ensures c.if-t-tracks.true

pub returns-then-s-sectors_on : goal.returns-then-s-sectors_on
returns-then-s-sectors_on c = link_none _ _ _ (omega arith) c.from-t.ensures c.from-s.ensures c.if-t-tracks.false c.sectors_on.ensures.0 (omega arith)

pub returns-else-s-sectors_on : goal.returns-else-s-sectors_on
returns-else-s-sectors_on c =
    link_to_lem _ _ _ (omega arith) c.from-t.ensures c.from-s.ensures c.if-t-tracks.false c.sectors_on.ensures.0 (omega arith) c.sectors_before.ensures.0
