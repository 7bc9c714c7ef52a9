-- `count_images::add_all` meets its contract.
-- Assumes nothing.
use native.Mathlib.Omega.{arith}
use Rattle.count_images.proofs.Adding.{adding_start, adding_fits, adding_turn, adding_end}
use Rattle.count_images.proofs.add_all.Goals as goal

pub loop-k-init : goal.loop-k-init
loop-k-init c = search adding_start

pub overflow_add-totals : goal.overflow_add-totals
overflow_add-totals c = search adding_fits

pub loop-k-preserved : goal.loop-k-preserved
loop-k-preserved c = adding_turn c.loop-k.invariant (omega (arith, c.loop-k.invariant.long, c.requires.0.long, c.requires.1.long))

pub returns : goal.returns
returns c = adding_end c.loop-k.invariant (omega (arith, c.loop-k.invariant.long, c.requires.0.long, c.requires.1.long)) c.requires.0 c.requires.1
