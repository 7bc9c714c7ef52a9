-- `disk_saves::lowest_outside` meets its contract.
-- Assumes nothing.
use Rattle.disk_saves.proofs.Lowest.{low_start, low_found, low_turn, low_end}
use Rattle.disk_saves.proofs.lowest_outside.Goals as goal

pub loop-n-init : goal.loop-n-init
loop-n-init c = low_start _

pub returns-then-not-contains : goal.returns-then-not-contains
returns-then-not-contains c = low_found c.loop-n.invariant c.loop-n-test.true c.if-not-contains.true c.contains.ensures.value

pub loop-n-preserved : goal.loop-n-preserved
loop-n-preserved c = low_turn c.loop-n.invariant c.loop-n-test.true c.if-not-contains.false c.contains.ensures.value

pub returns : goal.returns
returns c = low_end c.loop-n.invariant c.loop-n-test.false
