-- `desk_text::main` is safe and ends. The array's length comes by a law: counted out, it is beyond what a search takes.
-- Assumes nothing.
use Prim.Native.Nat.{ℕ}
use mathlib.Core.Path.{sym}
use lib.ListN.{length-replicate}
use Rattle.desk_text.proofs.main.Goals as goal

pub slice_bounds-take_files-end : goal.slice_bounds-take_files-end
slice_bounds-take_files-end c = sym (length-replicate {A = ℕ} 1048577 0)
