-- `list_stretches::put_run` meets its contract.
-- Assumes nothing.
use Prim.Native.Nat.{◌-◌}
use lib.ListN.{length}
use Rattle.list_stretches.proofs.Stretches.{RunStored}
use Rattle.list_stretches.proofs.put_run.Given as goal

abbrev pub invariant-loop-at : goal.invariant-loop-at
invariant-loop-at l = RunStored l.rules l.body l.initial.out l.initial.to l.initial.at l.initial.mode l.out l.to l.at l.mode

abbrev pub decreases-loop-at : goal.decreases-loop-at
decreases-loop-at l = length l.body - l.at
