-- Tallies: how often marks were made, and rows of numbers added (document 02, No. 12: "exact counts").
-- Assumes nothing.
use Rattle.std.specs.Prelude.{ℕ, zero, suc, ◌+◌, cond, List, [], ◌∷◌, eqb}

-- how often a mark was made
unfoldable pub occurrences : ℕ → List ℕ → ℕ
occurrences k [] = 0
occurrences k (m ∷ ms) = cond (eqb m k) 1 0 + occurrences k ms

-- the same of n marks one behind the other, from k on
unfoldable pub occurrences_from : ℕ → ℕ → List ℕ → List ℕ
unfolding occurrences
occurrences_from zero k ms = []
occurrences_from (suc n) k ms = occurrences k ms ∷ occurrences_from n (suc k) ms

-- tokens stand below CC; CC is an image taken, CD a refused one
unfoldable pub tally : List ℕ → List ℕ
unfolding occurrences_from
tally ms = occurrences_from 206 0 ms

-- the sums of two rows of numbers, place by place
unfoldable pub added : List ℕ → List ℕ → List ℕ
added [] u = []
added (x ∷ t) [] = []
added (x ∷ t) (y ∷ u) = (x + y) ∷ added t u
