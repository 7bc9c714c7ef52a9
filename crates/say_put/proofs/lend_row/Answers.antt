-- `say_put::lend_row` meets its contract.
-- Assumes nothing.
use Rattle.say_put.proofs.Lending.{row_lent, stored_taken}
use Rattle.say_put.proofs.lend_row.Goals as goal

pub slice_bounds-lend_text-end : goal.slice_bounds-lend_text-end
slice_bounds-lend_text-end c = search stored_taken

pub returns : goal.returns
returns c = search row_lent
