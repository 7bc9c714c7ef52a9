-- `judge_tables::print_escapes` is safe and ends: a name lies between its start and its line end.
-- Assumes nothing.
use Prim.Native.Nat.{◌≤◌}
use Rattle.judge_tables.proofs.print_escapes.Given as goal

abbrev pub invariant-loop-i : goal.invariant-loop-i
invariant-loop-i l = l.from ≤ l.i
