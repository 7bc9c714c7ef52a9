-- `base_ascii::trim` meets its contract.
-- Assumes nothing.
use Rattle.base_ascii.proofs.Laws.{trim_told}
use Rattle.base_ascii.proofs.Searching.{front_within, end_count}
use Rattle.base_ascii.proofs.trim.Goals as goal

pub slice_bounds-rest-count : goal.slice_bounds-rest-count
slice_bounds-rest-count c = search front_within

pub slice_bounds-rest-start : goal.slice_bounds-rest-start
slice_bounds-rest-start c = search front_within

pub slice_bounds-result-end : goal.slice_bounds-result-end
slice_bounds-result-end c = search end_count

pub returns : goal.returns
returns c = search trim_told
