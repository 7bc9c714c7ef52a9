-- `disk_entries::entries_that` meets its contract.
-- Assumes nothing.
use mathlib.Core.Path.{refl}
use Rattle.disk_chains.proofs.Runs.{pick_start, pick_in, pick_out, pick_end}
use Rattle.disk_entries.proofs.Placing.{that_stored}
use Rattle.disk_entries.proofs.entries_that.Goals as goal
use Rattle.disk_entries.proofs.entries_that.Goals.{then-is_that, else-is_that}

pub loop-e-init : goal.loop-e-init
loop-e-init c = pick_start _ _ _ _

pub loop-e-preserved : goal.loop-e-preserved
loop-e-preserved c =
    elim c.if-is_that.branch [
      | then-is_that w ↦ rw (w.list-is, w.count-is) (pick_in c.loop-e.invariant c.loop-e-test.true w.if-is_that.true c.is_that.ensures c.entry_at-p.ensures.0)
      | else-is_that w ↦ rw (w.list-is, w.count-is) (pick_out c.loop-e.invariant c.loop-e-test.true w.if-is_that.false c.is_that.ensures c.entry_at-p.ensures.0)
    ]

pub returns : goal.returns
returns c = that_stored _ _ _ (pick_end c.loop-e.invariant c.loop-e-test.false) refl
