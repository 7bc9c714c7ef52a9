-- `desk_counts::main` is safe and ends. The array's length comes by a law: counted out, it is beyond what a search takes.
-- Assumes nothing.
use Prim.Native.Nat.{ℕ}
use mathlib.Core.Path.{sym}
use lib.ListN.{length-replicate}
use Rattle.desk_counts.proofs.main.Goals as goal

pub slice_bounds-count_with-end : goal.slice_bounds-count_with-end
slice_bounds-count_with-end c = sym (length-replicate {A = ℕ} 1048577 0)
