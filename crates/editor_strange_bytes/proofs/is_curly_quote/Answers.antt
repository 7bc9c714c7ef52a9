-- `editor_strange_bytes::is_curly_quote` meets its contract.
-- Assumes nothing.
use Rattle.editor_strange_bytes.proofs.Knowing.{quote_third, quote_single}
use Rattle.editor_strange_bytes.proofs.is_curly_quote.Goals as goal

pub returns-then-begins : goal.returns-then-begins
returns-then-begins c = search quote_third

pub returns-else-begins : goal.returns-else-begins
returns-else-begins c = search quote_single
