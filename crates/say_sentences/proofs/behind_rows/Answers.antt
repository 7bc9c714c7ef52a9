-- `say_sentences::behind_rows` meets its contract.
-- Assumes nothing.
use native.Mathlib.Omega.{arith}
use Rattle.say_sentences.proofs.Skipping.{skipping_start, skipping_lf, skipping_on, skipping_there, skipping_end}
use Rattle.say_sentences.proofs.behind_rows.Goals as goal
use Rattle.say_sentences.proofs.behind_rows.Goals.{then-b-eq10, else-b-eq10}

pub loop-i-init : goal.loop-i-init
loop-i-init c = skipping_start _ _

pub returns-then-left-eq0 : goal.returns-then-left-eq0
returns-then-left-eq0 c = skipping_there c.loop-i.invariant (omega arith)

pub loop-i-preserved : goal.loop-i-preserved
loop-i-preserved c =
    elim c.if-b-eq10.branch [
      | then-b-eq10 w ↦ rw w.left-is (skipping_lf c.loop-i.invariant c.loop-i-test.true w.if-b-eq10.true (omega arith))
      | else-b-eq10 w ↦ rw w.left-is (skipping_on c.loop-i.invariant c.loop-i-test.true w.if-b-eq10.false (omega arith))
    ]

pub returns : goal.returns
returns c = search skipping_end
