-- `image_rows::parts::add_row` meets its contract.
-- Assumes nothing.
use Rattle.say_put.proofs.Lending.{stored_taken}
use Rattle.image_rows.proofs.Adding.{adds_row, taken_few}
use borrow.Author.Rules.{rules}
use Rattle.image_rows.proofs.parts.add_row.Goals as goal

pub slice_bounds-add_text-end : goal.slice_bounds-add_text-end
slice_bounds-add_text-end c = search stored_taken

pub add_text-requires : goal.add_text-requires
add_text-requires c = search (rules, taken_few)

pub returns : goal.returns
returns c = search adds_row
