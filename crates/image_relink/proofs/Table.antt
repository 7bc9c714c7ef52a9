-- The table of four programs, by computation.
-- Assumes nothing.
use mathlib.Core.Path.{refl}
use Rattle.image_layout.specs.Layout.{image_of}
use Rattle.image_relink.specs.Relinking.{in_memory, zero_sought, stored, relink_step, relink_from, relinking}
use Rattle.image_relink.specs.RelinkedTable.{RelinkedTable}

pub relinked_table : RelinkedTable
unfolding relinking relink_from relink_step stored zero_sought in_memory image_of
relinked_table = (refl, refl, refl, refl)
