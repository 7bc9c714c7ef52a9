-- `desk_image::write_index` is safe and ends. The array's length comes by a law: counted out, it is beyond what a search takes.
-- Assumes nothing.
use Prim.Native.Nat.{ℕ}
use mathlib.Core.Path.{sym}
use lib.ListN.{length-replicate}
use Rattle.desk_image.proofs.write_index.Goals as goal

pub slice_bounds-write_index_in-end : goal.slice_bounds-write_index_in-end
slice_bounds-write_index_in-end c = sym (length-replicate {A = ℕ} 131072 0)
