-- `editor_findings::braces::behind_brace` meets its contract.
-- Assumes nothing.
use Rattle.editor_findings.proofs.Telling.{inside_closed, inside_open, inside_long}
use Rattle.editor_findings.proofs.braces.behind_brace.Goals as goal

pub returns-then-closing-quote : goal.returns-then-closing-quote
returns-then-closing-quote c = search inside_closed

pub returns-then-quote-lt64 : goal.returns-then-quote-lt64
returns-then-quote-lt64 c = search inside_open

pub returns-else-quote-lt64 : goal.returns-else-quote-lt64
returns-else-quote-lt64 c = search inside_long
