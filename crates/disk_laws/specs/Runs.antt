-- A call over a disk, and the disk behind it (docs/RULES.md, "Disks"); and what is kept over any calls.
-- Assumes nothing.
use Rattle.std.specs.Prelude.{ℕ, ◌+◌, ◌≡◌, Bool, true, false, not, ◌&&◌, List, [], ◌∷◌, length}
use Rattle.disk_rules.specs.Entries.{same_name}
use Rattle.disk_rules.specs.Free.{free_sectors}
use Rattle.disk_rules.specs.Check.{files}
use Rattle.disk_rules.specs.Calls.{formatted, saved, scratched, onto_disk}

-- a call, with the name and the image that it is given
pub data Call : Type 0 where
  Format : Call
  Check : Call
  Read : List ℕ → Call
  Save : List ℕ → List ℕ → Call
  Scratch : List ℕ → Call

abbrev pub is_format : Call → Bool
is_format Format = true
is_format Check = false
is_format (Read name) = false
is_format (Save name image) = false
is_format (Scratch name) = false

-- the disk behind a call: as it was where the call is refused, or only reads
abbrev pub after_call : List ℕ → Call → List ℕ
after_call disk Format = (onto_disk (formatted disk) disk).disk
after_call disk Check = disk
after_call disk (Read name) = disk
after_call disk (Save name image) = (onto_disk (saved disk name image) disk).disk
after_call disk (Scratch name) = (onto_disk (scratched disk name) disk).disk

-- the disk behind a list of calls
unfoldable pub after_calls : List ℕ → List Call → List ℕ
after_calls disk [] = disk
after_calls disk (c ∷ cs) = after_calls (after_call disk c) cs

-- "sectors outside track 18 that the map calls free plus sectors in the chains of listed files plus the 19 of track 18 make 683"
abbrev pub AccountedFor : List ℕ → Type 0
AccountedFor disk = length (free_sectors disk) + length (files disk).sectors + 19 ≡ 683

-- a call that neither formats nor scratches the file of a name
abbrev pub spares : List ℕ → Call → Bool
spares name Format = false
spares name Check = true
spares name (Read other) = true
spares name (Save other image) = true
spares name (Scratch other) = not (same_name other name)

-- each call of a list does
unfoldable pub all_spare : List ℕ → List Call → Bool
all_spare name [] = true
all_spare name (c ∷ cs) = spares name c && all_spare name cs
