-- `image_faults::unmet_jump` meets its contract.
-- Assumes nothing.
use Rattle.image_faults.proofs.Unmet.{unmet_start, unmet_told, unmet_turn, unmet_less, unmet_end}
use Rattle.image_faults.proofs.unmet_jump.Goals as goal

pub loop-jump-init : goal.loop-jump-init
loop-jump-init c = search unmet_start

pub returns-then-not-has_mark : goal.returns-then-not-has_mark
returns-then-not-has_mark c = search unmet_told

pub loop-jump-smaller : goal.loop-jump-smaller
loop-jump-smaller c = search unmet_less

pub loop-jump-preserved : goal.loop-jump-preserved
loop-jump-preserved c = search unmet_turn

pub returns : goal.returns
returns c = search unmet_end
