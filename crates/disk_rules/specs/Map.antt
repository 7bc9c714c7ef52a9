-- The map of free sectors (docs/RULES.md, "Disks", "The disk": "in 18/0, four bytes for track t at 4t: the count of free sectors, then 24 bits, sector s being bit
-- s % 8 of byte 1 + s / 8; 1 is free").
-- Assumes nothing.
use Rattle.std.specs.Prelude.{ℕ, ◌+◌, ◌-◌, ◌*◌, ◌/◌, ◌%◌, ◌^◌, Bool, true, false, cond, ◌&&◌, List, eqb, get_or, set}
use Rattle.disk_rules.specs.Places.{track_of, sector_of, off_track18}

-- bit k of a byte
unfoldable pub bit_of : ℕ → ℕ → ℕ
bit_of b k = b / 2 ^ k % 2

-- how many bits of a byte are 1
unfoldable pub ones : ℕ → ℕ
ones b = b % 2 + b / 2 % 2 + b / 4 % 2 + b / 8 % 2 + b / 16 % 2 + b / 32 % 2 + b / 64 % 2 + b / 128 % 2

-- a byte with bit k made 1, or 0
unfoldable pub with_bit : ℕ → ℕ → Bool → ℕ
unfolding bit_of
with_bit b k true = cond (eqb (bit_of b k) 1) b (b + 2 ^ k)
with_bit b k false = cond (eqb (bit_of b k) 1) (b - 2 ^ k) b

-- where the four bytes of a track stand on the disk
abbrev pub map_at : ℕ → ℕ
map_at t = 91392 + 4 * t

-- the bit of the sector s of track t
abbrev pub bit_at : List ℕ → ℕ → ℕ → ℕ
bit_at disk t s = bit_of (get_or disk (map_at t + 1 + s / 8) 0) (s % 8)

-- a sector off track 18 that the map calls free
unfoldable pub is_free : List ℕ → ℕ → Bool
unfolding track_of sector_of bit_of
is_free disk n = off_track18 n && eqb (bit_at disk (track_of n) (sector_of n)) 1

-- a disk whose count for track t is "the number of 1 bits among its 24"
abbrev pub recounted : List ℕ → ℕ → List ℕ
recounted disk t =
    set disk (map_at t)
    (ones (get_or disk (map_at t + 1) 0) + ones (get_or disk (map_at t + 2) 0) + ones (get_or disk (map_at t + 3) 0))

-- a disk with a sector marked free, or used, and its track counted anew
unfoldable pub marked : List ℕ → ℕ → Bool → List ℕ
unfolding track_of sector_of with_bit ones
marked disk n free =
    recounted
    (set disk (map_at (track_of n) + 1 + sector_of n / 8)
    (with_bit (get_or disk (map_at (track_of n) + 1 + sector_of n / 8) 0) (sector_of n % 8) free))
    (track_of n)
