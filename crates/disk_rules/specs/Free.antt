-- The map beside the chains (docs/RULES.md, "Disks", "The check": "for every track but 18 the 24 bits are 1 exactly for its sectors in no chain, bits beyond
-- its sectors 0"), and the sectors that it calls free.
-- Assumes nothing.
use Rattle.std.specs.Prelude.{ℕ, ◌+◌, ◌/◌, ◌%◌, Bool, cond, not, ◌&&◌, ◌||◌, List, [], ◌∷◌, ltb, eqb}
use Rattle.disk_rules.specs.Places.{sectors_on, sector_at}
use Rattle.disk_rules.specs.Map.{bit_at, is_free, marked}
use Rattle.disk_rules.specs.Lists.{numbers_from, those, every}

-- the bit of the sector s of track t, where a test says which sectors are in a chain
abbrev pub bit_agrees : List ℕ → (ℕ → Bool) → ℕ → ℕ → Bool
bit_agrees disk met t s = eqb t 18 || eqb (bit_at disk t s) (cond (ltb s (sectors_on t) && not (met (sector_at t s))) 1 0)

-- each of the 24 bits of tracks 1 to 35
unfoldable pub map_agrees : List ℕ → (ℕ → Bool) → Bool
unfolding every numbers_from
map_agrees disk met = every (λ i. bit_agrees disk met (1 + i / 24) (i % 24)) (numbers_from 0 840)

-- the free sectors off track 18, the lowest first
unfoldable pub free_sectors : List ℕ → List ℕ
unfolding those numbers_from
free_sectors disk = those (is_free disk) (numbers_from 0 683)

-- the sectors of a list marked free, or used
unfoldable pub marked_all : List ℕ → List ℕ → Bool → List ℕ
marked_all disk [] free = disk
marked_all disk (n ∷ ns) free = marked_all (marked disk n free) ns free
