-- `body::may_repeat` meets its contract.
-- Assumes nothing.
use Rattle.body.proofs.Bound.{star_within, repeat_told}
use Rattle.body.proofs.may_repeat.Goals as goal

pub slice_bounds-rest-count : goal.slice_bounds-rest-count
slice_bounds-rest-count c = search star_within

pub slice_bounds-rest-start : goal.slice_bounds-rest-start
slice_bounds-rest-start c = search star_within

pub returns : goal.returns
returns c = search repeat_told
