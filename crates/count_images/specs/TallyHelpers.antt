-- For functions below the public ones: how far numbers can be raised, and what has been counted.
-- Assumes nothing.
use Rattle.std.specs.Prelude.{ℕ, ◌+◌, ◌≤◌, ◌≡◌, List, length, get_or}
use Rattle.base_refusals.specs.Answer.{Answer, done}
use Rattle.count_images.specs.Tallies.{tally, added}

-- 206 numbers, each of which can be raised n times
pub record Raisable (n : ℕ) (t : List ℕ) : Type 0 where
  pub long : length t ≡ 206
  pub each : (k : ℕ) → get_or t k 0 + n ≤ 18446744073709551615

-- marks, where there are any, on top of totals
pub record Tallied (a : Answer (List ℕ)) (t t' : List ℕ) : Type 0 where
  pub is : (ms : List ℕ) → a ≡ done ms → t' ≡ added t (tally ms)
