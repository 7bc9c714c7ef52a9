-- `guess_uses::proving::is_called` meets its contract.
-- Assumes nothing.
use Rattle.guess_uses.proofs.Uses.{called_is}
use Rattle.base_ascii.proofs.Searching.{front_within}
use Rattle.guess_uses.proofs.proving.is_called.Goals as goal

pub slice_bounds-starts_with-count : goal.slice_bounds-starts_with-count
slice_bounds-starts_with-count c = search front_within

pub slice_bounds-starts_with-start : goal.slice_bounds-starts_with-start
slice_bounds-starts_with-start c = search front_within

pub returns : goal.returns
returns c = search called_is
