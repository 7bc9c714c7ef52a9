-- `desk_image::places::show_lines` is safe and ends. The array's length comes by a law: counted out, it is beyond what a search takes.
-- Assumes nothing.
use Prim.Native.Nat.{ℕ}
use mathlib.Core.Path.{sym}
use lib.ListN.{length-replicate}
use Rattle.desk_image.proofs.places.show_lines.Goals as goal

pub slice_bounds-show_rows-end : goal.slice_bounds-show_rows-end
slice_bounds-show_rows-end c = sym (length-replicate {A = ℕ} 262144 0)
