-- What the contracts of the helpers in this crate say of lists in the caller's hands.
-- Assumes nothing.
use Rattle.std.specs.Prelude.{ℕ, suc, ◌+◌, ◌≤◌, ◌<◌, ◌≡◌, Bool, cond, List, [], ◌∷◌, length, get_or, take}
use Rattle.disk_rules.specs.Entries.{before_a0}

-- each number of a list is the offset of an entry's type
pub record Entries (l : List ℕ) : Type 0 where
  pub within : (i : ℕ) → i < length l → get_or l i 0 + 30 ≤ 174848

-- so many bytes stand before the first A0
pub record Before (bytes : List ℕ) (count : ℕ) : Type 0 where
  pub within : count ≤ length bytes
  pub are : take count bytes ≡ before_a0 bytes
