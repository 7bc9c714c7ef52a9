-- `guess_variables::marked_names` meets its contract.
-- Assumes nothing.
use Rattle.guess_variables.proofs.Passes.{passing_start, passing_remark, name_place, passing_name, passing_end, name_fits, name_less, pass_fits, behind_some, behind_within, passing_stretch}
use Rattle.guess_places.proofs.Places.{stretch_fits, stretch_less}
use Rattle.guess_variables.proofs.marked_names.Goals as goal

pub loop-i-init : goal.loop-i-init
loop-i-init c = search passing_start

pub returns-in-Remark : goal.returns-in-Remark
returns-in-Remark c = search passing_remark

pub overflow_add-behind : goal.overflow_add-behind
overflow_add-behind c = search pass_fits

pub slice_bounds-stretch-count : goal.slice_bounds-stretch-count
slice_bounds-stretch-count c = search behind_within

pub slice_bounds-stretch-start : goal.slice_bounds-stretch-start
slice_bounds-stretch-start c = search behind_within

pub overflow_add-i : goal.overflow_add-i
overflow_add-i c = search (stretch_fits, behind_within)

pub loop-i-smaller-in-On : goal.loop-i-smaller-in-On
loop-i-smaller-in-On c = search (stretch_less, behind_some, behind_within)

pub loop-i-preserved-in-On : goal.loop-i-preserved-in-On
loop-i-preserved-in-On c = search passing_stretch

pub bounds-found-index : goal.bounds-found-index
bounds-found-index c = search name_place

pub overflow_add-i-in-Name : goal.overflow_add-i-in-Name
overflow_add-i-in-Name c = search name_fits

pub loop-i-smaller : goal.loop-i-smaller
loop-i-smaller c = search name_less

pub loop-i-preserved : goal.loop-i-preserved
loop-i-preserved c = search passing_name

pub returns : goal.returns
returns c = search passing_end
