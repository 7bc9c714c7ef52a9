-- For functions below the public ones: how large totals are.
-- Assumes nothing.
use Rattle.std.specs.Prelude.{ℕ, ◌≤◌, ◌≡◌, List, length, get_or}

-- 206 numbers, none above what 1,000 images can give
pub record Small (t : List ℕ) : Type 0 where
  pub long : length t ≡ 206
  pub each : (k : ℕ) → get_or t k 0 ≤ 1048576000
