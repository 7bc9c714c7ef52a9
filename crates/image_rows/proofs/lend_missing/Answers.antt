-- `image_rows::lend_missing` meets its contract.
-- Assumes nothing.
use Rattle.image_rows.specs.Found.{missing_row}
use borrow.Author.Rules.{rules}
use Rattle.image_rows.proofs.lend_missing.Goals as goal

pub returns : goal.returns
unfolding missing_row
returns c = search rules
