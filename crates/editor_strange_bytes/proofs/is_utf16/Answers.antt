-- `editor_strange_bytes::is_utf16` meets its contract.
-- Assumes nothing.
use Rattle.editor_strange_bytes.proofs.Knowing.{utf16_low, utf16_high}
use Rattle.editor_strange_bytes.proofs.is_utf16.Goals as goal

pub returns-then-begins : goal.returns-then-begins
returns-then-begins c = search utf16_low

pub returns-else-begins : goal.returns-else-begins
returns-else-begins c = search utf16_high
