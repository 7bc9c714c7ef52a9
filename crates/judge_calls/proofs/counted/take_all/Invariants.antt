-- `judge_calls::counted::take_all` is safe and ends.
-- Assumes nothing.
use Prim.Native.Nat.{◌≤◌, ◌-◌}
use lib.ListN.{length}
use mathlib.Core.Path.{◌≡◌}
use Rattle.judge_calls.proofs.counted.take_all.Given as goal

abbrev pub invariant-loop-at : goal.invariant-loop-at
invariant-loop-at l = (l.at ≤ length l.images) × (length l.totals ≡ length l.initial.totals)

abbrev pub decreases-loop-at : goal.decreases-loop-at
decreases-loop-at l = length l.images - l.at
