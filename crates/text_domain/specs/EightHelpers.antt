-- For the contract of `top_of_eight` alone: a number that none of eight bytes is above.
-- Assumes nothing.
use Rattle.std.specs.Prelude.{ℕ, ◌+◌, ◌≤◌, List, get_or}

-- none of the eight bytes from i on is above r
pub record Tops (t : List ℕ) (i r : ℕ) : Type 0 where
  pub first : get_or t i 0 ≤ r
  pub second : get_or t (i + 1) 0 ≤ r
  pub third : get_or t (i + 2) 0 ≤ r
  pub fourth : get_or t (i + 3) 0 ≤ r
  pub fifth : get_or t (i + 4) 0 ≤ r
  pub sixth : get_or t (i + 5) 0 ≤ r
  pub seventh : get_or t (i + 6) 0 ≤ r
  pub eighth : get_or t (i + 7) 0 ≤ r
