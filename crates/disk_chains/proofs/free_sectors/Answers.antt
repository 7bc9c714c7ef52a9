-- `disk_chains::free_sectors` meets its contract.
-- Assumes nothing.
use mathlib.Core.Path.{refl}
use Rattle.disk_chains.proofs.Runs.{pick_start, pick_in, pick_out, pick_end, free_listed}
use Rattle.disk_chains.proofs.free_sectors.Goals as goal
use Rattle.disk_chains.proofs.free_sectors.Goals.{then-is_free, else-is_free}

pub loop-n-init : goal.loop-n-init
loop-n-init c = pick_start _ _ 683 _

pub loop-n-preserved : goal.loop-n-preserved
loop-n-preserved c =
    elim c.if-is_free.branch [
      | then-is_free w ↦ rw (w.list-is, w.count-is) (pick_in c.loop-n.invariant c.loop-n-test.true w.if-is_free.true c.is_free.ensures refl)
      | else-is_free w ↦ rw (w.list-is, w.count-is) (pick_out c.loop-n.invariant c.loop-n-test.true w.if-is_free.false c.is_free.ensures refl)
    ]

pub returns : goal.returns
returns c = free_listed _ (pick_end c.loop-n.invariant c.loop-n-test.false)
