-- A row: words with marks where numbers go.
-- Assumes nothing.
use Rattle.std.specs.Prelude.{ℕ, true, false, List, [], ◌∷◌, ◌++◌, eqb}
use Rattle.base_steps.specs.Decimal.{decimal}

-- a row up to its end, its marks, each a #, filled with three numbers, one after the other
unfoldable pub filled : List ℕ → ℕ → ℕ → ℕ → List ℕ
unfolding decimal
filled [] x y z = []
filled (c ∷ s) x y z =
    elim (eqb c 0x0A) [ true ↦ [] | false ↦ elim (eqb c 0x23) [ true ↦ decimal x ++ filled s y z 0 | false ↦ c ∷ filled s x y z ] ]

-- a line of its own: what stands in front, and the row
unfoldable pub row_text : List ℕ → List ℕ → ℕ → ℕ → ℕ → List ℕ
unfolding filled
row_text front row x y z = front ++ (filled row x y z ++ (0x0A ∷ []))
