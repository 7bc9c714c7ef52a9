-- `desk_image::places::show_under` is safe and ends: the count that was read lies within the buffer.
-- Assumes nothing.
use native.Mathlib.Omega.{arith}
use lib.ListN.{length-take}
use Rattle.desk_image.proofs.places.show_under.Goals as goal

pub show_text-requires : goal.show_text-requires
show_text-requires c = simp length-take (omega arith)
