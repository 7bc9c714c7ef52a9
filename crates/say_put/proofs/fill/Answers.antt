-- `say_put::fill` meets its contract.
-- Assumes nothing.
use Rattle.say_put.proofs.Clipping.{clip_long}
use Rattle.say_put.proofs.Filling.{filling_start, filling_mark, filling_byte, filling_lf, filling_end}
use Rattle.say_put.proofs.fill.Goals as goal
use Rattle.say_put.proofs.fill.Goals.{then-b-eq35, else-b-eq35}

pub loop-b-init : goal.loop-b-init
loop-b-init c = search filling_start

pub returns-then-b-eq10 : goal.returns-then-b-eq10
returns-then-b-eq10 c = search filling_lf

pub shape_of-out-then-b-eq10 : goal.shape_of-out-then-b-eq10
shape_of-out-then-b-eq10 c = clip_long (returns-then-b-eq10 c)

pub loop-b-preserved : goal.loop-b-preserved
loop-b-preserved c =
    elim c.if-b-eq35.branch [
      | then-b-eq35 w ↦ rw (w.out-is, w.to-is, w.value-is, w.later-is, w.last-is) (filling_mark c.loop-b.invariant c.loop-b-test.true w.if-b-eq35.true w.put_decimal-to.ensures)
      | else-b-eq35 w ↦
          rw (w.out-is, w.to-is, w.value-is, w.later-is, w.last-is)
          (filling_byte c.loop-b.invariant c.loop-b-test.true c.if-b-eq10.false w.if-b-eq35.false w.put_text-to.ensures)
    ]

pub returns : goal.returns
returns c = search filling_end

pub shape_of-out : goal.shape_of-out
shape_of-out c = clip_long (returns c)
