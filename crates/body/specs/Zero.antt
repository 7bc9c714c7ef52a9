-- A zero in a body (document 02, No. 1: "no zero in any body"; 17 ZeroInBody).
-- Assumes nothing.
use Rattle.std.specs.Prelude.{ℕ, Bool, false, ◌||◌, List, [], ◌∷◌, eqb}

unfoldable pub holds_zero : List ℕ → Bool
holds_zero [] = false
holds_zero (b ∷ s) = eqb b 0 || holds_zero s
