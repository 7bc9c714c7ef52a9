-- The check (docs/RULES.md, "Disks", "The check": "20 unless all hold").
-- Assumes nothing.
use Rattle.std.specs.Prelude.{ℕ, Bool, true, ◌&&◌, List, eqb, length, get_or}
use Rattle.disk_rules.specs.Lists.{is_in, none_twice}
use Rattle.disk_rules.specs.Chains.{Chain}
use Rattle.disk_rules.specs.Free.{map_agrees}
use Rattle.disk_rules.specs.Entries.{directory, entries_that, listed, entries_good, chains}

-- the chains of all listed entries
abbrev pub files : List ℕ → Chain
files disk = chains disk (listed disk)

-- "the length; 18/0 links to 18/1; the directory's chain ..; every listed entry has type 82; no two listed entries have the same name;
-- every listed entry's chain ..; no sector is met twice over all chains; for every track but 18 the 24 bits ..", with the directory's chain and the files'
abbrev pub checked : List ℕ → Chain → Chain → Bool
checked disk dir met =
    eqb (length disk) 174848 && eqb (get_or disk 91392 0) 18 && eqb (get_or disk 91393 0) 1
    && dir.ends && none_twice dir.sectors
    && entries_good disk (entries_that true disk dir.sectors)
    && met.ends && none_twice met.sectors
    && map_agrees disk (is_in met.sectors)

unfoldable pub sound : List ℕ → Bool
unfolding directory chains
sound disk = checked disk (directory disk) (files disk)
