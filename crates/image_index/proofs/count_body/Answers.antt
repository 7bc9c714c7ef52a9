-- `image_index::count_body` meets its contract.
-- Assumes nothing.
use Rattle.image_index.proofs.Counting.{counting_start, counting_high, counting_turn, counting_past, counting_less, counting_end}
use Rattle.image_index.proofs.count_body.Goals as goal
use Rattle.image_index.proofs.count_body.Goals.{then-not-has_mark, else-not-has_mark}

pub loop-jump-init : goal.loop-jump-init
loop-jump-init c = search counting_start

pub returns-then-jump-gt65535 : goal.returns-then-jump-gt65535
returns-then-jump-gt65535 c = search counting_high

pub loop-jump-smaller : goal.loop-jump-smaller
loop-jump-smaller c = search counting_less

pub loop-jump-preserved : goal.loop-jump-preserved
loop-jump-preserved c =
    elim c.if-not-has_mark.branch [
      | then-not-has_mark w ↦ rw w.n-is (search counting_turn)
      | else-not-has_mark w ↦ rw w.n-is (search counting_past)
    ]

pub returns : goal.returns
returns c = search counting_end
