-- `list_texts::digits` meets its contract.
-- Assumes nothing.
use Rattle.list_texts.proofs.Made.{digits_made}
use Rattle.list_texts.proofs.digits.Goals as goal

pub returns : goal.returns
returns c = search digits_made
