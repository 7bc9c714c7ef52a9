-- `base_ascii::between` meets its contract: the test that was passed says which case holds.
-- Assumes nothing.
use borrow.Author.Tests.{le-leb, lt-leb}
use Rattle.base_ascii.specs.Bytes.{between}
use Rattle.base_ascii.proofs.between.Goals as goal

pub returns-then-low-b : goal.returns-then-low-b
unfolding between
returns-then-low-b c = simp (le-leb _ _ c.if-low-b.true)

pub returns-else-low-b : goal.returns-else-low-b
unfolding between
returns-else-low-b c = simp (lt-leb _ _ c.if-low-b.false)
