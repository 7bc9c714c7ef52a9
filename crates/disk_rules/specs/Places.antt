-- The sectors of a disk (docs/RULES.md, "Disks", "The disk": "tracks 1 to 35 with 21, 19, 18, 17 sectors each (1 to 17, 18 to 24, 25 to 30, 31 to 35),
-- 256 bytes each, in order of track and sector"). A sector is its number in this order, from 0 to 682; "lower" means a lower number.
-- Assumes nothing.
use Rattle.std.specs.Prelude.{ℕ, ◌+◌, ◌-◌, ◌*◌, ◌/◌, ◌%◌, Bool, cond, ◌&&◌, ◌||◌, leb, ltb}

-- how many sectors a track has
unfoldable pub sectors_on : ℕ → ℕ
sectors_on t = cond (ltb t 18) 21 (cond (ltb t 25) 19 (cond (ltb t 31) 18 17))

-- how many sectors stand before a track's first
unfoldable pub sectors_before : ℕ → ℕ
sectors_before t =
    cond (ltb t 18) (21 * (t - 1))
    (cond (ltb t 25) (357 + 19 * (t - 18))
    (cond (ltb t 31) (490 + 18 * (t - 25))
    (598 + 17 * (t - 31))))

-- whether a track and a sector on it exist
abbrev pub is_sector : ℕ → ℕ → Bool
is_sector t s = leb 1 t && leb t 35 && ltb s (sectors_on t)

-- the number of the sector s on track t
abbrev pub sector_at : ℕ → ℕ → ℕ
sector_at t s = sectors_before t + s

-- the track of a sector, and which of the track's sectors it is
unfoldable pub track_of : ℕ → ℕ
track_of n =
    cond (ltb n 357) (1 + n / 21)
    (cond (ltb n 490) (18 + (n - 357) / 19)
    (cond (ltb n 598) (25 + (n - 490) / 18)
    (31 + (n - 598) / 17)))

unfoldable pub sector_of : ℕ → ℕ
sector_of n = cond (ltb n 357) (n % 21) (cond (ltb n 490) ((n - 357) % 19) (cond (ltb n 598) ((n - 490) % 18) ((n - 598) % 17)))

-- track 18 is the sectors 357 to 375
abbrev pub off_track18 : ℕ → Bool
off_track18 n = ltb n 357 || ltb 375 n
