-- Why a disk is not in order (docs/RULES.md, "Why a disk is not in order": "the first rule of the check that is broken, in its order, and where").
-- Each rule is the check's (disk_rules); proofs/Sound.antt: nothing is broken exactly where the check takes the disk.
-- Assumes nothing.
use Rattle.std.specs.Prelude.{ℕ, ◌+◌, ◌/◌, ◌%◌, Bool, true, false, cond, ◌&&◌, ◌||◌, List, [], ◌∷◌, ltb, eqb, length, get_or}
use Rattle.disk_rules.specs.Places.{sectors_on}
use Rattle.disk_rules.specs.Lists.{numbers_from, those, is_in}
use Rattle.disk_rules.specs.Map.{bit_at}
use Rattle.disk_rules.specs.Free.{bit_agrees}
use Rattle.disk_rules.specs.Entries.{name_at, is_named, entries_that}
use Rattle.disk_ways.specs.Ways.{none_met, Way, way, way_of, ends_as}
use Rattle.disk_ways.specs.declared.Over.TheVariants.{Directory as DirectoryWay, Files}
use Rattle.disk_why.specs.declared.Broken.{Broken}
use Rattle.disk_why.specs.declared.Broken.TheVariants.{Nothing, Length, Start, Directory, NotClosed, SameName, File, Free, Used, Beyond}

abbrev pub is_nothing : Broken → Bool
is_nothing Nothing = true
is_nothing (Length n) = false
is_nothing (Start t s) = false
is_nothing (Directory stop) = false
is_nothing (NotClosed p) = false
is_nothing (SameName p q) = false
is_nothing (File p stop) = false
is_nothing (Free t s) = false
is_nothing (Used t s) = false
is_nothing (Beyond t s) = false

-- what is broken, or else the next
abbrev pub or_else : Broken → Broken → Broken
or_else a b = cond (is_nothing a) b a

-- the first of a list at which something is broken
unfoldable pub first_fault : (ℕ → Broken) → List ℕ → Broken
first_fault f [] = Nothing
first_fault f (n ∷ ns) = or_else (f n) (first_fault f ns)

-- ---- the directory

-- "18/0 links to 18/1"
abbrev pub start_fault : List ℕ → Broken
start_fault disk = cond (eqb (get_or disk 91392 0) 18 && eqb (get_or disk 91393 0) 1) Nothing (Start (get_or disk 91392 0) (get_or disk 91393 0))

-- the directory's way, from 18/1 on, over its 18 sectors
unfoldable pub directory_way : List ℕ → Way
directory_way disk = way DirectoryWay 18 disk none_met 358

-- "the directory's chain stays on 18/1 to 18/18 until a link with track 00 .. and meets no sector twice"
abbrev pub directory_fault : List ℕ → Broken
directory_fault disk = cond (ends_as true (directory_way disk).stop) Nothing (Directory (directory_way disk).stop)

-- ---- its entries

-- the entry p, and the first of those that have its name
abbrev pub same_fault : ℕ → List ℕ → Broken
same_fault p [] = Nothing
same_fault p (q ∷ qs) = SameName p q

-- "every listed entry has type 82; no two listed entries have the same name"
unfoldable pub entry_fault : List ℕ → List ℕ → Broken
unfolding those
entry_fault disk [] = Nothing
entry_fault disk (p ∷ ps) =
    or_else (cond (eqb (get_or disk p 0) 0x82) (same_fault p (those (is_named disk (name_at disk p)) ps)) (NotClosed p)) (entry_fault disk ps)

-- ---- their chains

-- "stays on existing sectors off track 18 until a link with track 00 whose second byte is not 00", over sectors that were not met
unfoldable pub file_fault : List ℕ → (ℕ → Bool) → ℕ → Broken
file_fault disk met p = cond (ends_as false (way_of Files 683 disk met p).stop) Nothing (File p (way_of Files 683 disk met p).stop)

-- each chain alone
abbrev pub alone_fault : List ℕ → List ℕ → Broken
alone_fault disk ps = first_fault (file_fault disk none_met) ps

-- what was met, with the sectors of one chain more
abbrev pub met_behind : List ℕ → (ℕ → Bool) → ℕ → ℕ → Bool
met_behind disk met p m = is_in (way_of Files 683 disk met p).sectors m || met m

-- "no sector is met twice over all chains"
unfoldable pub crossed_fault : List ℕ → (ℕ → Bool) → List ℕ → Broken
unfolding file_fault
crossed_fault disk met [] = Nothing
crossed_fault disk met (p ∷ ps) = or_else (file_fault disk met p) (crossed_fault disk (met_behind disk met p) ps)

-- what is met over all chains
unfoldable pub met_by : List ℕ → (ℕ → Bool) → List ℕ → ℕ → Bool
met_by disk met [] = met
met_by disk met (p ∷ ps) = met_by disk (met_behind disk met p) ps

-- ---- the map

-- the bit of the sector s of track t: "1 exactly for its sectors in no chain, and 0 beyond its sectors"
unfoldable pub bit_fault : List ℕ → (ℕ → Bool) → ℕ → ℕ → Broken
bit_fault disk met t s =
    cond (bit_agrees disk met t s) Nothing
    (cond (ltb s (sectors_on t)) (cond (eqb (bit_at disk t s) 1) (Free t s) (Used t s)) (Beyond t s))

unfoldable pub map_fault : List ℕ → (ℕ → Bool) → Broken
unfolding first_fault bit_fault
map_fault disk met = first_fault (λ i. bit_fault disk met (1 + i / 24) (i % 24)) (numbers_from 0 840)

-- ---- all of it

-- what is broken behind the directory, of its listed entries
abbrev pub listed_fault : List ℕ → List ℕ → Broken
listed_fault disk ps =
    or_else (entry_fault disk ps) (or_else (alone_fault disk ps) (or_else (crossed_fault disk none_met ps) (map_fault disk (met_by disk none_met ps))))

unfoldable pub why : List ℕ → Broken
unfolding directory_way
why disk =
    cond (eqb (length disk) 174848)
    (or_else (start_fault disk) (or_else (directory_fault disk) (listed_fault disk (entries_that true disk (directory_way disk).sectors))))
    (Length (length disk))
