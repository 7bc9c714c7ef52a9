-- `disk_chains::trace` meets its contract.
-- Assumes nothing.
use Prim.Native.Nat.{◌-◌}
use lib.ListN.{length}
use Rattle.disk_rules.specs.CountedHelpers.{chain_within}
use Rattle.disk_chains.proofs.Tracing.{Tracing}
use Rattle.disk_chains.proofs.trace.Given as goal

abbrev pub invariant-loop-i : goal.invariant-loop-i
invariant-loop-i l = Tracing l.directory l.disk (chain_within l.directory (length l.initial.log - l.at) l.disk l.first) l.initial.log l.at l.log l.n l.i
