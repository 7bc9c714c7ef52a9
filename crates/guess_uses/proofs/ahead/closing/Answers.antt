-- `guess_uses::ahead::closing` meets its contract.
-- Assumes nothing.
use native.Mathlib.Omega.{arith}
use Rattle.guess_uses.proofs.Behind.{listed_start, listed_closed, listed_up, listed_down, listed_on, listed_told}
use Rattle.guess_uses.proofs.ahead.closing.Goals as goal
use Rattle.guess_uses.proofs.ahead.closing.Goals.{in-40, in-41+else-depth-eq0, in_default}

pub loop-i-init : goal.loop-i-init
loop-i-init c = search listed_start

pub returns-then-depth-eq0 : goal.returns-then-depth-eq0
returns-then-depth-eq0 c = search listed_closed

pub loop-i-preserved : goal.loop-i-preserved
loop-i-preserved c =
    elim c.match-b.branch [
      | in-40 w ↦ rw w.depth-is (listed_down w.in-40.is c.loop-i-test.true c.loop-i.invariant)
      | in-41+else-depth-eq0 w ↦ rw w.depth-is (listed_up w.if-depth-eq0.false w.in-41.is c.loop-i-test.true c.loop-i.invariant)
      | in_default w ↦ rw w.depth-is (search (listed_on, w.in_default))
    ]

pub returns : goal.returns
returns c = listed_told c.loop-i-test.false c.loop-i.auto.i-end c.loop-i.invariant

pub loop-i-preserved-then-b-gt41 : goal.loop-i-preserved-then-b-gt41
loop-i-preserved-then-b-gt41 c = listed_on (λ e. omega (arith, c.if-b-gt41.true)) (λ e. omega (arith, c.if-b-gt41.true)) c.loop-i-test.true c.loop-i.invariant
