-- What the contracts of the helpers in this crate say of lists in the caller's hands.
-- Assumes nothing.
use Rattle.std.specs.Prelude.{ℕ, ◌+◌, ◌*◌, ◌≤◌, ◌<◌, List, length, get_or}

-- each number of a list is a sector of the image
pub record Lies (disk l : List ℕ) : Type 0 where
  pub small : (i : ℕ) → i < length l → get_or l i 0 < 768
  pub within : (i : ℕ) → i < length l → 256 * get_or l i 0 + 256 ≤ length disk

-- and there are no more of them than an image has sectors
pub record Below (disk l : List ℕ) : Type 0 where
  pub few : length l ≤ 768
  pub lies : Lies disk l
