-- `disk_sectors::mark` meets its contract.
-- Assumes nothing.
use native.Mathlib.Omega.{arith}
use lib.ListN.{length-set}
use Rattle.disk_sectors.proofs.Bits.{mark_made}
use Rattle.disk_sectors.proofs.mark.Goals as goal

pub bounds-disk-count : goal.bounds-disk-count
bounds-disk-count c = simp length-set (omega arith)

pub bounds-disk-count-2 : goal.bounds-disk-count-2
bounds-disk-count-2 c = simp length-set (omega arith)

pub bounds-disk-count-3 : goal.bounds-disk-count-3
bounds-disk-count-3 c = simp length-set (omega arith)

pub bounds-disk-count-4 : goal.bounds-disk-count-4
bounds-disk-count-4 c = simp length-set (omega arith)

pub returns : goal.returns
returns c = search mark_made
