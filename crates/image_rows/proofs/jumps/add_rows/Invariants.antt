-- `image_rows::jumps::add_rows` meets its contract.
-- Assumes nothing.
use Prim.Native.Nat.{◌-◌}
use lib.ListN.{length}
use Rattle.image_rows.proofs.Threading.{Rowing}
use Rattle.image_rows.proofs.jumps.add_rows.Given as goal

abbrev pub invariant-loop-row : goal.invariant-loop-row
invariant-loop-row l = Rowing l.index l.firsts l.nexts l.marked l.initial.out l.out l.from l.to

abbrev pub decreases-loop-row : goal.decreases-loop-row
decreases-loop-row l = length l.firsts - l.from
