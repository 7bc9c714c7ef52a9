-- `crunch_image::bound::fits` meets its contract.
-- Assumes nothing.
use native.Mathlib.Omega.{arith}
use Rattle.crunch_image.proofs.Bounding.{bound_start, bound_low, bound_turn, bound_end}
use Rattle.guess.proofs.Texts.{line_high, line_less, line_up}
use Rattle.crunch_image.proofs.bound.fits.Goals as goal

pub loop-at-init : goal.loop-at-init
loop-at-init c = search bound_start

pub slice_bounds-line-count : goal.slice_bounds-line-count
slice_bounds-line-count c = search line_up

pub slice_bounds-line-start : goal.slice_bounds-line-start
slice_bounds-line-start c = search line_up

pub slice_bounds-line-end : goal.slice_bounds-line-end
slice_bounds-line-end c = search line_high

pub loop-at-smaller : goal.loop-at-smaller
loop-at-smaller c = search line_less

pub loop-at-preserved : goal.loop-at-preserved
loop-at-preserved c = search bound_turn

pub overflow_sub-result : goal.overflow_sub-result
overflow_sub-result c = search bound_low

pub overflow_add-result : goal.overflow_add-result
overflow_add-result c = omega (arith, bound_low)

pub returns : goal.returns
returns c = search bound_end
