-- For what the programs write, and for no promise of an entry point: how the word PART says that OUT is written.
-- Assumes nothing.
use Rattle.std.specs.Prelude.{ℕ, cond, List, [], ◌∷◌, eqb}
use Rattle.desk.specs.declared.names.Way.{Way}
use Rattle.desk.specs.declared.names.Way.TheVariants.{Beside, InPlace, Nowhere}

-- - is for writing in place; a name that does not fit reads as the empty word, which is for nothing
abbrev pub way_of : List ℕ → Way
way_of [] = Nowhere
way_of (b ∷ []) = cond (eqb b 0x2D) InPlace Beside
way_of (b ∷ c ∷ rest) = Beside
