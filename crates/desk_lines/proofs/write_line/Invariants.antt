-- `desk_lines::write_line` is safe and ends: a stretch lies within its buffer, and each brings the line nearer to its end.
-- Assumes nothing.
use Rattle.list_stretches.specs.Stretch.{place_left}
use Rattle.desk_lines.proofs.Held.{Writing}
use Rattle.desk_lines.proofs.write_line.Given as goal

abbrev pub invariant-loop-place : goal.invariant-loop-place
invariant-loop-place l = Writing l.initial.out l.out l.place

abbrev pub decreases-loop-place : goal.decreases-loop-place
decreases-loop-place l = place_left l.body l.place
