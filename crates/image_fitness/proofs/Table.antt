-- The table of small programs, by computation.
-- Assumes nothing.
use mathlib.Core.Path.{refl}
use Rattle.image_layout.specs.Layout.{image_of}
use Rattle.image_relink.specs.Relinking.{in_memory, zero_sought, stored, relink_step, relink_from, relinking}
use Rattle.image_faults.specs.Faults.{fitness}
use Rattle.image_fitness.specs.FitnessTable.{FitnessTable}

pub fitness_table : FitnessTable
unfolding fitness relinking relink_from relink_step stored zero_sought in_memory image_of
fitness_table = (refl, refl, refl, refl, refl, refl, refl)
