-- `escapes::tail_of` meets its contract.
-- Assumes nothing.
use Rattle.escapes.proofs.Tails.{solid_taken, tail_told}
use Rattle.escapes.proofs.tail_of.Goals as goal

pub slice_bounds-repeat_of-end : goal.slice_bounds-repeat_of-end
slice_bounds-repeat_of-end c = search solid_taken

pub returns : goal.returns
returns c = search tail_told
