-- `image_find::find_line` meets its contract.
-- Assumes nothing.
use Rattle.image_find.proofs.Seeking.{NoneBefore}
use Rattle.image_find.proofs.find_line.Given as goal

abbrev pub invariant-loop-visited : goal.invariant-loop-visited
invariant-loop-visited l = NoneBefore l.number l.limit l.image l.offset l.visited
