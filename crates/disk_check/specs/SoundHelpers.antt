-- What the contract of `look`, which serves the calls, says.
-- Assumes nothing.
use Rattle.std.specs.Prelude.{ℕ, ◌≤◌, ◌≡◌, true, false, List, length, take, Option, MatchOption}
use Rattle.disk_rules.specs.Entries.{directory, listed}
use Rattle.disk_rules.specs.Check.{sound}
use Rattle.disk_check.specs.declared.Seen.{Seen}

-- a sound disk, and at the start of two lists its directory's sectors and its listed entries
pub record Saw (d : List ℕ) (s : Seen) (sectorList fileList : List ℕ) : Type 0 where
  pub verdict : sound d ≡ true
  pub few : s.sectors ≤ 18
  pub sectors : take s.sectors sectorList ≡ (directory d).sectors
  pub many : s.files ≤ 144
  pub counts : s.files ≡ length (listed d)
  pub files : take s.files fileList ≡ listed d

-- a disk was looked at: one that is not sound, or what it was seen to be
abbrev pub Looks : List ℕ → Option Seen → List ℕ → List ℕ → Type 0
Looks d r sectorList fileList = MatchOption r (sound d ≡ false) (λ s. Saw d s sectorList fileList)
