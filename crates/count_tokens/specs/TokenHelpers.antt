-- For `token_of` alone: a token as a number.
-- Assumes nothing.
use Rattle.std.specs.Prelude.{ℕ, cond, List, [], ◌∷◌, ltb}

-- a token below CC; what is not below is none
unfoldable pub only : ℕ → List ℕ
only k = cond (ltb k 0xCC) (k ∷ []) []
