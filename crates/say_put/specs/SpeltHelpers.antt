-- For the helper that spells a number, and for no promise of a public call.
-- Assumes nothing.
use Rattle.std.specs.Prelude.{ℕ, ◌≤◌, ◌≡◌, List, length, drop}

-- a text stands at the end of an array of twenty bytes
pub record Spelt (text : List ℕ) (from : ℕ) (bytes : List ℕ) : Type 0 where
  pub within : from ≤ 20
  pub sized : length bytes ≡ 20
  pub gives : drop from bytes ≡ text
