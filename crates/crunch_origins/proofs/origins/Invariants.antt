-- `crunch_origins::origins` meets its contract.
-- Assumes nothing.
use Prim.Native.Nat.{◌-◌}
use lib.ListN.{length}
use Rattle.crunch_origins.proofs.Pairing.{Pairing}
use Rattle.crunch_origins.proofs.origins.Given as goal

abbrev pub invariant-loop-at : goal.invariant-loop-at
invariant-loop-at l = Pairing l.text l.initial.out l.out l.at l.number l.to

abbrev pub decreases-loop-at : goal.decreases-loop-at
decreases-loop-at l = length l.text - l.at
