-- `desk_lines::write_lines` is safe and ends: each line lies within the image, and the next one nearer to its end.
-- Assumes nothing.
use Prim.Native.Nat.{◌-◌}
use mathlib.Core.Path.{◌≡◌}
use lib.ListN.{length}
use Rattle.desk_lines.proofs.write_lines.Given as goal

abbrev pub invariant-loop-step : goal.invariant-loop-step
invariant-loop-step l = length l.out ≡ length l.initial.out

abbrev pub decreases-loop-step : goal.decreases-loop-step
decreases-loop-step l = length l.image - l.offset
