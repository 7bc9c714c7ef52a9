-- `word_search::goes_on` meets its contract.
-- Assumes nothing.
use Rattle.word_search.proofs.Comparing.{going_start, going_short, going_turn, going_other, going_end}
use Rattle.word_search.proofs.goes_on.Goals as goal
use Rattle.word_search.proofs.goes_on.Goals.{then-i-text-via-then-i-text, then-i-text-via-else-i-text+then-word-i}

pub loop-i-init : goal.loop-i-init
loop-i-init c = search going_start

pub returns-then-i-text : goal.returns-then-i-text
returns-then-i-text c =
    elim c.then-i-text.branch [
      | then-i-text-via-then-i-text w ↦ going_short w.if-i-text.true c.loop-i-test.true c.loop-i.invariant
      | then-i-text-via-else-i-text+then-word-i w ↦ going_other w.if-word-i.true w.upper.ensures w.if-i-text.false c.loop-i-test.true c.loop-i.invariant
    ]

pub loop-i-preserved : goal.loop-i-preserved
loop-i-preserved c = search going_turn

pub returns : goal.returns
returns c = search going_end
