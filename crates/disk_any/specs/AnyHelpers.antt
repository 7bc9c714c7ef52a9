-- What the contracts of the helpers in this crate say of lists in the caller's hands.
-- Assumes nothing.
use Rattle.std.specs.Prelude.{ℕ, ◌+◌, ◌*◌, ◌≤◌, ◌<◌, ◌≡◌, List, length, get_or}
use Rattle.disk_rules.specs.Places.{sectors_before}
use Rattle.disk_any.specs.Any.{spot_from}
use Rattle.std.specs.Prelude.{Option, Some, None, Result, Ok, Err}

-- an image has the sectors of so many tracks
pub record Holds (disk : List ℕ) (tracks : ℕ) : Type 0 where
  pub low : 35 ≤ tracks
  pub high : tracks ≤ 40
  pub size : 256 * sectors_before (tracks + 1) ≤ length disk
  pub few : sectors_before (tracks + 1) ≤ 768

-- the entry at a place of a list, and that it stands in the image
pub record Placed (disk l : List ℕ) (place : ℕ) (r : Option ℕ) : Type 0 where
  pub is : r ≡ spot_from l place
  pub within : (p : ℕ) → r ≡ Some p → p + 30 ≤ length disk
