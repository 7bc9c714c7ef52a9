-- `desk_disk::read_named` is safe and ends. The array's length comes by a law: counted out, it is beyond what a search takes.
-- Assumes nothing.
use Prim.Native.Nat.{ℕ}
use mathlib.Core.Path.{sym}
use lib.ListN.{length-replicate}
use Rattle.desk_disk.proofs.read_named.Goals as goal

pub slice_bounds-read_into-end : goal.slice_bounds-read_into-end
slice_bounds-read_into-end c = sym (length-replicate {A = ℕ} 168656 0)
