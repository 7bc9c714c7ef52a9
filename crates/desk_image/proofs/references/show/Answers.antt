-- `desk_image::references::show` is safe and ends. The array's length comes by a law: counted out, it is beyond what a search takes.
-- Assumes nothing.
use Prim.Native.Nat.{ℕ}
use mathlib.Core.Path.{sym}
use lib.ListN.{length-replicate}
use Rattle.desk_image.proofs.references.show.Goals as goal

pub slice_bounds-show_in-end : goal.slice_bounds-show_in-end
slice_bounds-show_in-end c = sym (length-replicate {A = ℕ} 131072 0)
