-- `disk_ways::follow` meets its contract.
-- Assumes nothing.
use lib.ListN.{length}
use Rattle.disk_ways.specs.Ways.{way}
use Rattle.disk_ways.proofs.Following.{marked_in, Following}
use Rattle.disk_ways.proofs.follow.Given as goal

abbrev pub invariant-loop-i : goal.invariant-loop-i
invariant-loop-i l = Following l.over l.disk (way l.over (length l.initial.log) l.disk (marked_in l.initial.marks) l.first) l.initial.log l.initial.marks l.log l.marks l.n l.i
