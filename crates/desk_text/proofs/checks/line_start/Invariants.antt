-- `desk_text::checks::line_start` is safe and ends: each line begins behind the one before.
-- Assumes nothing.
use Prim.Native.Nat.{◌-◌}
use lib.ListN.{length}
use Rattle.desk_text.proofs.checks.line_start.Given as goal

abbrev pub decreases-loop-at : goal.decreases-loop-at
decreases-loop-at l = length l.text - l.at
