-- `text_domain::check_text` meets its contract: a law for each answer.
-- Assumes nothing.
use Rattle.text_domain.proofs.Limits.{text_long, text_bad, text_fine}
use Rattle.text_domain.proofs.check_text.Goals as goal

pub returns-then-text-gt1048576 : goal.returns-then-text-gt1048576
returns-then-text-gt1048576 c = search text_long

pub returns-then-fine-text : goal.returns-then-fine-text
returns-then-fine-text c = search text_bad

pub returns : goal.returns
returns c = search text_fine
