-- Lists of numbers: a run of them, those that pass a test, and whether one stands in a list, or twice.
-- Assumes nothing.
use Rattle.std.specs.Prelude.{ℕ, zero, suc, ◌+◌, Bool, true, false, cond, not, ◌&&◌, ◌||◌, List, [], ◌∷◌, eqb}

-- so many numbers, from one on
unfoldable pub numbers_from : ℕ → ℕ → List ℕ
numbers_from from zero = []
numbers_from from (suc k) = from ∷ numbers_from (from + 1) k

unfoldable pub those : (ℕ → Bool) → List ℕ → List ℕ
those test [] = []
those test (n ∷ ns) = cond (test n) (n ∷ those test ns) (those test ns)

unfoldable pub every : (ℕ → Bool) → List ℕ → Bool
every test [] = true
every test (n ∷ ns) = test n && every test ns

unfoldable pub some : (ℕ → Bool) → List ℕ → Bool
some test [] = false
some test (n ∷ ns) = test n || some test ns

-- whether a number stands in a list
abbrev pub is_in : List ℕ → ℕ → Bool
is_in ns n = some (eqb n) ns

-- no number stands in the list twice
unfoldable pub none_twice : List ℕ → Bool
unfolding some
none_twice [] = true
none_twice (n ∷ ns) = not (is_in ns n) && none_twice ns
