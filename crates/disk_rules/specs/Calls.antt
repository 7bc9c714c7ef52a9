-- What the five calls do to a disk, and answer (docs/RULES.md, "Disks").
-- Assumes nothing.
use Rattle.std.specs.Prelude.{ℕ, zero, suc, ◌+◌, ◌-◌, ◌*◌, ◌/◌, ◌%◌, max, Bool, true, false, cond, not, ◌&&◌, List, [], ◌∷◌, ◌++◌, leb, ltb, eqb, length, get_or, take, drop, replicate, set}
use Rattle.std.proofs.lemmas.List.Edits.{sets}
use Rattle.base_refusals.specs.Numbers.{bad_disk, bad_name, name_taken, no_such_file, directory_full, disk_full}
use Rattle.base_refusals.specs.Answer.{Answer, done, refused, numbered, answered}
use Rattle.disk_rules.specs.Places.{track_of, sector_of}
use Rattle.disk_rules.specs.Map.{marked}
use Rattle.disk_rules.specs.Lists.{numbers_from, those, some, is_in}
use Rattle.disk_rules.specs.Free.{free_sectors, marked_all}
use Rattle.disk_rules.specs.Entries.{directory, listed, entries_that, is_named, chain_of}
use Rattle.disk_rules.specs.Check.{sound}
use Rattle.disk_rules.specs.declared.Holding.{Holding}
use Rattle.std.specs.Prelude.{Result, Ok, Err}
use Rattle.base_refusals.specs.declared.Refusal.{Refusal}

-- ---- refusals

-- "20; 21 (name empty, over 16 bytes, or with A0)"
abbrev pub is_file_name : List ℕ → Bool
is_file_name name = leb 1 (length name) && leb (length name) 16 && not (is_in name 0xA0)

-- what is answered on a sound disk for a name
abbrev pub on_sound : {A : Type 0} → List ℕ → List ℕ → Answer A → Answer A
on_sound disk name a = cond (sound disk) (cond (is_file_name name) a (refused bad_name)) (refused bad_disk)

-- the listed entries of a name: one, or none, where the disk is sound
abbrev pub entries_named : List ℕ → List ℕ → List ℕ
entries_named disk name = those (is_named disk name) (listed disk)

-- what f answers of the entry of a name, or 23
abbrev pub of_file : {A : Type 0} → List ℕ → (ℕ → Answer A) → Answer A
of_file [] f = refused no_such_file
of_file (p ∷ ps) f = f p

-- ---- check

-- how many files are listed, and how many sectors off track 18 are free
unfoldable pub disk_holding : List ℕ → Answer Holding
unfolding sound free_sectors
disk_holding disk =
    cond (sound disk) (done (record { files = length (listed disk); free = length (free_sectors disk) })) (refused bad_disk)

-- ---- read

-- a sector's bytes: 254 of them, or in a chain's last "1 + its bytes" stands in the second byte
abbrev pub payload : List ℕ → ℕ → List ℕ
payload disk n = take (cond (eqb (get_or disk (256 * n) 0) 0) (get_or disk (256 * n + 1) 0 - 1) 254) (drop (256 * n + 2) disk)

unfoldable pub chain_bytes : List ℕ → List ℕ → List ℕ
chain_bytes disk [] = []
chain_bytes disk (n ∷ ns) = payload disk n ++ chain_bytes disk ns

-- the bytes of a file; into a lent buffer they go by `into_buffer`, with 6
unfoldable pub file_bytes : List ℕ → List ℕ → Answer (List ℕ)
unfolding sound chain_bytes those
file_bytes disk name = on_sound disk name (of_file (entries_named disk name) (λ p. done (chain_bytes disk (chain_of disk p).sectors)))

-- ---- scratch

-- "the entry's type becomes 00 and nothing else of it; its sectors are marked free and their tracks counted anew"
unfoldable pub scratched : List ℕ → List ℕ → Answer (List ℕ)
unfolding sound marked_all those
scratched disk name =
    on_sound disk name (of_file (entries_named disk name) (λ p. done (marked_all (set disk p 0) (chain_of disk p).sectors true)))

-- ---- save

-- "max(1, length / 254 rounded up)"
abbrev pub sectors_for : List ℕ → ℕ
sectors_for image = max 1 ((length image + 253) / 254)

-- a sector whole: its link, its bytes, and 00 to the end
abbrev pub sector_bytes : ℕ → ℕ → List ℕ → List ℕ
sector_bytes t s bytes = t ∷ s ∷ bytes ++ replicate (254 - length bytes) 0

-- the link before what follows: the next sector, or 00 and 1 + the bytes
abbrev pub link_bytes : List ℕ → List ℕ → List ℕ → List ℕ
link_bytes [] bytes left = sector_bytes 0 (1 + length left) bytes
link_bytes (m ∷ ns) bytes left = sector_bytes (track_of m) (sector_of m) bytes

-- an image laid out over sectors, 254 bytes in each
unfoldable pub laid : List ℕ → List ℕ → List ℕ → List ℕ
unfolding track_of sector_of
laid disk [] image = disk
laid disk (n ∷ ns) image = laid (sets disk (256 * n) (link_bytes ns (take 254 image) image)) ns (drop 254 image)

-- the sectors that a save takes
abbrev pub taken : List ℕ → List ℕ → List ℕ
taken disk image = take (sectors_for image) (free_sectors disk)

-- "all 30 bytes (82, first sector, name padded with A0, nine 00, number of sectors)"
abbrev pub entry_bytes : List ℕ → List ℕ → List ℕ
entry_bytes name sectors =
    0x82 ∷ track_of (get_or sectors 0 0) ∷ sector_of (get_or sectors 0 0) ∷ name ++ replicate (16 - length name) 0xA0
    ++ replicate 9 0 ++ length sectors % 256 ∷ length sectors / 256 ∷ []

-- the sectors 18/1 to 18/18 outside a directory's chain
abbrev pub outside : List ℕ → List ℕ
outside sectors = those (λ n. not (is_in sectors n)) (numbers_from 358 18)

-- "written whole (00 FF and 00s), linked from the chain's last sector and marked used"
abbrev pub grown : List ℕ → ℕ → ℕ → List ℕ
grown disk last n =
    marked (sets (sets disk (256 * n) (sector_bytes 0 0xFF [])) (256 * last) (track_of n ∷ sector_of n ∷ [])) n false

-- an entry written over the first that is not listed, or into the lowest sector outside the chain; with fewer than 144 files there is one of
-- the two
abbrev pub with_entry : List ℕ → List ℕ → List ℕ → List ℕ → List ℕ → Answer (List ℕ)
with_entry disk entry sectors (p ∷ ps) out = done (sets disk p entry)
with_entry disk entry sectors [] [] = refused directory_full
with_entry disk entry sectors [] (n ∷ ns) = done (sets (grown disk (get_or sectors (length sectors - 1) 0) n) (256 * n + 2) entry)

-- a disk with the sectors of an image laid out and marked used, and its entry
abbrev pub with_file : List ℕ → List ℕ → List ℕ → List ℕ → Answer (List ℕ)
with_file disk name image sectors =
    with_entry (marked_all (laid disk sectors image) sectors false) (entry_bytes name sectors) (directory disk).sectors
    (entries_that false disk (directory disk).sectors) (outside (directory disk).sectors)

-- "20; 21; 22; 24 at 144 listed entries; 25 if fewer sectors are free off track 18 than .."
unfoldable pub saved : List ℕ → List ℕ → List ℕ → Answer (List ℕ)
unfolding sound laid marked_all directory those some free_sectors entries_that track_of sector_of marked
saved disk name image =
    on_sound disk name
    (cond (some (is_named disk name) (listed disk)) (refused name_taken)
    (cond (leb 144 (length (listed disk))) (refused directory_full)
    (cond (ltb (length (free_sectors disk)) (sectors_for image)) (refused disk_full)
    (with_file disk name image (taken disk image)))))

-- ---- format

-- a list so many times
unfoldable pub repeated_bytes : ℕ → List ℕ → List ℕ
repeated_bytes zero bytes = []
repeated_bytes (suc k) bytes = bytes ++ repeated_bytes k bytes

-- "18/0 begins 12 01 41 00, then the map, all free but 18/0 and 18/1 (..); 90 to AA of 18/0 all A0 but A5, A6 "2A""
unfoldable pub fresh_header : List ℕ
unfolding repeated_bytes
fresh_header =
    0x12 ∷ 0x01 ∷ 0x41 ∷ 0x00 ∷ repeated_bytes 17 (0x15 ∷ 0xFF ∷ 0xFF ∷ 0x1F ∷ []) ++ 0x11 ∷ 0xFC ∷ 0xFF ∷ 0x07 ∷ repeated_bytes 6 (0x13 ∷ 0xFF ∷ 0xFF ∷ 0x07 ∷ [])
    ++ repeated_bytes 6 (0x12 ∷ 0xFF ∷ 0xFF ∷ 0x03 ∷ []) ++ repeated_bytes 5 (0x11 ∷ 0xFF ∷ 0xFF ∷ 0x01 ∷ [])
    ++ replicate 21 0xA0 ++ 0x32 ∷ 0x41 ∷ replicate 4 0xA0

-- "Every byte 00 but: .. 18/1 begins 00 FF"
unfoldable pub fresh : List ℕ
unfolding fresh_header
fresh = sets (sets (replicate 174848 0) 91392 fresh_header) 91648 (0x00 ∷ 0xFF ∷ [])

-- "tests the length only"
abbrev pub formatted : List ℕ → Answer (List ℕ)
formatted disk = cond (eqb (length disk) 174848) (done fresh) (refused bad_disk)

-- ---- answers

-- what a call that changes the disk answers, and the disk then
pub record After : Type 0 where
  pub answer : Answer Unit
  pub disk : List ℕ

-- the disk that a call makes, or the disk as it was
abbrev pub onto_disk : Answer (List ℕ) → List ℕ → After
onto_disk (done made) disk = record { answer = done tt; disk = made }
onto_disk (refused n) disk = record { answer = refused n; disk = disk }

-- an answer, and the disk as it was left
abbrev pub leaving : Result (Unit {0}) Refusal → List ℕ → After
leaving r disk = record { answer = answered r; disk = disk }
