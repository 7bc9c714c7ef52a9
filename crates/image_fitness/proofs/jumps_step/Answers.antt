-- `image_fitness::jumps_step` meets its contract.
-- Assumes nothing.
use Rattle.image_faults.proofs.Telling.{line_runs, line_within}
use Rattle.image_fitness.proofs.Moving.{jumps_told, jumps_on_lem}
use Rattle.image_fitness.proofs.jumps_step.Goals as goal

pub slice_bounds-unmet_jump-count : goal.slice_bounds-unmet_jump-count
slice_bounds-unmet_jump-count c = search line_runs

pub slice_bounds-unmet_jump-start : goal.slice_bounds-unmet_jump-start
slice_bounds-unmet_jump-start c = search line_runs

pub slice_bounds-unmet_jump-end : goal.slice_bounds-unmet_jump-end
slice_bounds-unmet_jump-end c = search line_within

pub returns-in-Some : goal.returns-in-Some
returns-in-Some c = search jumps_told

pub returns-in-None : goal.returns-in-None
returns-in-None c = search jumps_on_lem
