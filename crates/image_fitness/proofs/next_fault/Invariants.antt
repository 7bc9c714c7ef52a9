-- `image_fitness::next_fault` meets its contract.
-- Assumes nothing.
use Rattle.image_fitness.specs.FaultHelpers.{place_ahead}
use Rattle.image_fitness.proofs.Moving.{FaultAhead}
use Rattle.image_fitness.proofs.next_fault.Given as goal

abbrev pub invariant-loop-found : goal.invariant-loop-found
invariant-loop-found l = FaultAhead l.marked l.image l.initial.place l.place

abbrev pub decreases-loop-found : goal.decreases-loop-found
decreases-loop-found l = place_ahead l.image l.place
