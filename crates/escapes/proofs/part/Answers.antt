-- `escapes::part` meets its contract.
-- Assumes nothing.
use Rattle.escapes.proofs.Tails.{part_empty, part_within, part_told}
use Rattle.escapes.proofs.part.Goals as goal

pub returns-then-to-from : goal.returns-then-to-from
returns-then-to-from c = search part_empty

pub slice_bounds-result-count : goal.slice_bounds-result-count
slice_bounds-result-count c = search part_within

pub slice_bounds-result-start : goal.slice_bounds-result-start
slice_bounds-result-start c = search part_within

pub returns : goal.returns
returns c = search part_told
