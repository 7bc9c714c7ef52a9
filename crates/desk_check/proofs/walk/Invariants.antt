-- `desk_check::walk` is safe and ends.
-- Assumes nothing.
use lib.ListN.{length}
use Rattle.image_marks.specs.Marks.{has_mark}
use Rattle.image_fitness.specs.FaultHelpers.{faults_at}
use Rattle.desk_check.proofs.walk.Given as goal

abbrev pub invariant-loop-found : goal.invariant-loop-found
invariant-loop-found l = Unit {0}

abbrev pub decreases-loop-found : goal.decreases-loop-found
decreases-loop-found l = length (faults_at (has_mark l.marked) l.image l.place)
