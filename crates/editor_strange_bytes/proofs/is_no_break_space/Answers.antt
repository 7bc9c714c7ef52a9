-- `editor_strange_bytes::is_no_break_space` meets its contract.
-- Assumes nothing.
use Rattle.editor_strange_bytes.proofs.Knowing.{space_wide, space_single}
use Rattle.editor_strange_bytes.proofs.is_no_break_space.Goals as goal

pub returns-then-begins : goal.returns-then-begins
returns-then-begins c = search space_wide

pub returns-else-begins : goal.returns-else-begins
returns-else-begins c = search space_single
