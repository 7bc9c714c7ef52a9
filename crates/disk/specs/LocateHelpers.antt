-- What the contracts of `seek`, which serves the calls with a name, and of `locate`, which serves reading and scratching, say.
-- Assumes nothing.
use Rattle.std.specs.Prelude.{ℕ, ◌+◌, ◌≤◌, ◌≡◌, List, length, take, find, Result, Ok, Err}
use Rattle.base_refusals.specs.Answer.{Answer, done, refused, numbered, answered}
use Rattle.base_refusals.specs.declared.Refusal.{Refusal}
use Rattle.disk_rules.specs.Entries.{directory, listed, is_named}
use Rattle.disk_rules.specs.Calls.{on_sound, of_file, entries_named}
use Rattle.disk.specs.declared.Sought.{Sought}

-- ---- seek

-- 20 and 21
unfoldable pub admitted : List ℕ → List ℕ → Answer Unit
admitted disk name = on_sound disk name (done tt)

abbrev pub seek_answer : Result Sought Refusal → Answer Unit
seek_answer (Ok s) = done tt
seek_answer (Err r) = refused (numbered r)

-- the directory's sectors at the start of a list, how many entries are listed, and the first with the name
pub record Known (disk name : List ℕ) (s : Sought) (sectorList : List ℕ) : Type 0 where
  pub size : length disk ≡ 174848
  pub short : length name ≤ 16
  pub few : s.sectors ≤ 18
  pub chain : take s.sectors sectorList ≡ (directory disk).sectors
  pub counts : s.files ≡ length (listed disk)
  pub first : s.entry ≡ find (is_named disk name) (listed disk)

abbrev pub Knows : List ℕ → List ℕ → List ℕ → Result Sought Refusal → Type 0
Knows disk name sectorList (Ok s) = Known disk name s sectorList
Knows disk name sectorList (Err r) = Unit

pub record Seeks (disk name : List ℕ) (r : Result Sought Refusal) (sectorList : List ℕ) : Type 0 where
  pub answers : seek_answer r ≡ admitted disk name
  pub knows : Knows disk name sectorList r

-- ---- locate

-- the entry of a name on a disk
unfoldable pub located : List ℕ → List ℕ → Answer ℕ
located disk name = on_sound disk name (of_file (entries_named disk name) done)

-- an entry that was found stands on a disk of the right length
abbrev pub Stands : List ℕ → Result ℕ Refusal → Type 0
Stands disk (Ok p) = (length disk ≡ 174848) × (p + 30 ≤ 174848)
Stands disk (Err r) = Unit

pub record Locates (disk name : List ℕ) (r : Result ℕ Refusal) : Type 0 where
  pub answers : answered r ≡ located disk name
  pub stands : Stands disk r
