-- `editor_strange_bytes::is_long_dash` meets its contract.
-- Assumes nothing.
use Rattle.editor_strange_bytes.proofs.Knowing.{dash_third, dash_none}
use Rattle.editor_strange_bytes.proofs.is_long_dash.Goals as goal

pub returns-then-begins : goal.returns-then-begins
returns-then-begins c = search dash_third

pub returns-else-begins : goal.returns-else-begins
returns-else-begins c = search dash_none
