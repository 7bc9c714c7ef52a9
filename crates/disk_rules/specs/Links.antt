-- Links (docs/RULES.md, "Disks", "The disk": "track and sector of the next, or 00 and a second byte in a chain's last").
-- Assumes nothing.
use Rattle.std.specs.Prelude.{ℕ, ◌+◌, ◌&&◌, cond, List, leb, ltb, eqb, get_or}
use Rattle.disk_rules.specs.Places.{sectors_on, is_sector, sector_at}
use Rattle.disk_rules.specs.declared.Link.{Link}
use Rattle.disk_rules.specs.declared.Link.TheVariants.{Last, To, Astray}

-- what a track and a sector link to
unfoldable pub link_to : ℕ → ℕ → Link
link_to t s = cond (eqb t 0) (Last s) (cond (is_sector t s) (To (sector_at t s)) Astray)

-- what a track and a sector link to on a disk of so many tracks: with 35 it is `link_to`
unfoldable pub link_on : ℕ → ℕ → ℕ → Link
link_on tracks t s = cond (eqb t 0) (Last s) (cond (leb 1 t && leb t tracks && ltb s (sectors_on t)) (To (sector_at t s)) Astray)

-- the link in the two bytes at an offset
abbrev pub link_at : List ℕ → ℕ → Link
link_at disk at = link_to (get_or disk at 0) (get_or disk (at + 1) 0)
