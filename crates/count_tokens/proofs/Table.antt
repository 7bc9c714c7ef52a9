-- The table of bodies and what is counted in them, by computation.
-- Assumes nothing.
use mathlib.Core.Path.{refl}
use Rattle.image_bytes.specs.ImageBytes.{before_zero}
use Rattle.count_tokens.specs.Tokens.{tokens_of, tokens_from}
use Rattle.count_tokens.specs.CountedTable.{CountedTable}

pub counted_table : CountedTable
unfolding tokens_of tokens_from before_zero
counted_table = (refl, refl, refl, refl, refl, refl, refl)
