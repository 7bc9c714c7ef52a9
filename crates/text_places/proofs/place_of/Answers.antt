-- `text_places::place_of` meets its contract.
-- Assumes nothing.
use native.Mathlib.Omega.{arith}
use Rattle.text_places.proofs.Placing.{passed_start, passed_turn, passed_end}
use Rattle.text_places.proofs.place_of.Goals as goal

pub loop-i-init : goal.loop-i-init
loop-i-init c = passed_start _ _

pub loop-i-preserved : goal.loop-i-preserved
loop-i-preserved c = passed_turn c.loop-i.invariant (omega arith) (omega arith) c.past-at.ensures

pub returns : goal.returns
returns c = passed_end c.loop-i.invariant (omega arith)
