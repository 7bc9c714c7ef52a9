-- `guess_uses::ahead::list_assigned` meets its contract.
-- Assumes nothing.
use Rattle.guess_uses.proofs.Behind.{list_fits, list_told, list_within}
use Rattle.base_ascii.proofs.Searching.{front_within}
use Rattle.guess_uses.proofs.ahead.list_assigned.Goals as goal

pub overflow_add-list : goal.overflow_add-list
overflow_add-list c = search list_fits

pub slice_bounds-behind-count : goal.slice_bounds-behind-count
slice_bounds-behind-count c = search list_within

pub slice_bounds-behind-start : goal.slice_bounds-behind-start
slice_bounds-behind-start c = search list_within

pub slice_bounds-starts_with-count : goal.slice_bounds-starts_with-count
slice_bounds-starts_with-count c = search front_within

pub slice_bounds-starts_with-start : goal.slice_bounds-starts_with-start
slice_bounds-starts_with-start c = search front_within

pub returns : goal.returns
returns c = search list_told
