-- `image_rows::lend_found` meets its contract.
-- Assumes nothing.
use Rattle.image_rows.specs.Found.{found_row}
use borrow.Author.Rules.{rules}
use Rattle.image_rows.proofs.lend_found.Goals as goal

pub returns : goal.returns
unfolding found_row
returns c = search rules
