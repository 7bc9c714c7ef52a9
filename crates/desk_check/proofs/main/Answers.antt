-- `desk_check::main` is safe and ends.
-- Assumes nothing.
use Prim.Native.Nat.{ℕ}
use mathlib.Core.Path.{sym}
use lib.ListN.{length-replicate}
use Rattle.desk_check.proofs.main.Goals as goal

pub slice_bounds-check_files-end : goal.slice_bounds-check_files-end
slice_bounds-check_files-end c = sym (length-replicate {A = ℕ} 1048577 0)
