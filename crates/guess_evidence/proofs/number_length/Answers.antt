-- `guess_evidence::number_length` meets its contract.
-- Assumes nothing.
use Rattle.guess_evidence.proofs.Steps.{number_is, number_fits}
use Rattle.base_ascii.proofs.Searching.{front_within}
use Rattle.guess_evidence.proofs.number_length.Goals as goal

pub slice_bounds-front-count : goal.slice_bounds-front-count
slice_bounds-front-count c = search front_within

pub slice_bounds-front-start : goal.slice_bounds-front-start
slice_bounds-front-start c = search front_within

pub overflow_add-result : goal.overflow_add-result
overflow_add-result c = search number_fits

pub returns : goal.returns
returns c = search number_is
