-- A disk that is worn where its files' bytes stand (document 02, No. 14: "Worn disks spoil many"; "for crunched images saved and read back by No. 9").
-- Assumes nothing.
use Rattle.std.specs.Prelude.{ℕ, ◌+◌, ◌-◌, ◌*◌, ◌/◌, ◌%◌, ◌<◌, ◌≡◌, Bool, false, cond, ◌&&◌, List, [], ◌∷◌, leb, ltb, length, get_or}
use Rattle.base_refusals.specs.Answer.{done}
use Rattle.disk_rules.specs.Places.{off_track18}
use Rattle.disk_rules.specs.Entries.{chain_of}
use Rattle.disk_rules.specs.Calls.{entries_named, payload, file_bytes}
use Rattle.image_layout.specs.Changed.{ChangedAt}

-- whether a byte of the disk may be a file's: off track 18, behind its sector's link
abbrev pub is_file_byte : ℕ → Bool
is_file_byte j = leb 2 (j % 256) && off_track18 (j / 256)

-- the sectors of the first entry's chain, none where there is no entry
abbrev pub sectors_filed : List ℕ → List ℕ → List ℕ
sectors_filed disk [] = []
sectors_filed disk (p ∷ ps) = (chain_of disk p).sectors

-- the sectors of the file of a name
abbrev pub file_sectors : List ℕ → List ℕ → List ℕ
file_sectors disk name = sectors_filed disk (entries_named disk name)

-- where on the disk the i-th byte stands of the file in these sectors
unfoldable pub place_on_disk : List ℕ → List ℕ → ℕ → ℕ
place_on_disk disk [] i = 0
place_on_disk disk (n ∷ ns) i =
    cond (ltb i (length (payload disk n))) (256 * n + 2 + i) (place_on_disk disk ns (i - length (payload disk n)))

-- only bytes of files are changed on the disk, and of the file of a name only some of its bytes
pub record Worn (changes : ℕ → Bool) (before name now : List ℕ) : Type 0 where
  pub disk : ChangedAt is_file_byte before now
  pub others : (i : ℕ) → changes i ≡ false → get_or now (place_on_disk before (file_sectors before name) i) 0 ≡ get_or before (place_on_disk before (file_sectors before name) i) 0
  pub bytes : (j : ℕ) → get_or now j 0 < 256

-- what is read of a file then: the image that was read before, but for these bytes
pub record ReadsWorn (changes : ℕ → Bool) (before name now : List ℕ) : Type 0 where
  pub image : List ℕ
  pub read : file_bytes now name ≡ done image
  pub changed : ChangedAt changes before image
