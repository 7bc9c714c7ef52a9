-- What the contracts of the helpers that write a file say of the sectors chosen for it.
-- Assumes nothing.
use Rattle.std.specs.Prelude.{ℕ, ◌-◌, ◌*◌, ◌≤◌, List, length}
use Rattle.disk_chains.specs.ChainHelpers.{Sectors}

-- sectors, as many as an image takes, and no more than a disk has
pub record Chosen (sectors image : List ℕ) : Type 0 where
  pub are : Sectors sectors
  pub some : 1 ≤ length sectors
  pub few : length sectors ≤ 683
  pub low : 254 * (length sectors - 1) ≤ length image
  pub high : length image ≤ 254 * length sectors
