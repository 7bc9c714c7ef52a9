-- The directory (docs/RULES.md, "Disks", "The disk": "a chain from 18/1; eight entries of 30 bytes in a sector at 2, 34, .. 226: type, first track, first
-- sector, name of 16 .. Listed: type not 00, wherever it stands in the chain. An entry's name: its 16 bytes up to the first A0"). An entry
-- is known by the offset of its type.
-- Assumes nothing.
use Rattle.std.specs.Prelude.{ℕ, ◌+◌, ◌*◌, ◌/◌, ◌%◌, Bool, true, false, cond, not, ◌&&◌, List, [], ◌∷◌, ◌++◌, map, eqb, length, get_or, take, drop}
use Rattle.disk_rules.specs.Links.{link_at}
use Rattle.disk_rules.specs.declared.Link.{Link}
use Rattle.disk_rules.specs.declared.Link.TheVariants.{Last, To, Astray}
use Rattle.disk_rules.specs.Lists.{numbers_from, those, some}
use Rattle.disk_rules.specs.Chains.{Chain, chain, broken_chain}

-- the directory's chain, from 18/1, which is sector 358
unfoldable pub directory : List ℕ → Chain
unfolding chain
directory disk = chain true disk 358

-- the e-th entry of a directory's sectors, from 0
abbrev pub entry_at : List ℕ → ℕ → ℕ
entry_at sectors e = 256 * get_or sectors (e / 8) 0 + 2 + 32 * (e % 8)

abbrev pub entries_of : List ℕ → List ℕ
entries_of sectors = map (entry_at sectors) (numbers_from 0 (8 * length sectors))

abbrev pub is_listed : List ℕ → ℕ → Bool
is_listed disk p = not (eqb (get_or disk p 0) 0)

-- whether an entry is listed, or is not
abbrev pub is_that : Bool → List ℕ → ℕ → Bool
is_that true disk p = is_listed disk p
is_that false disk p = not (is_listed disk p)

-- the entries that are listed, or those that are not, in the chain's order
unfoldable pub entries_that : Bool → List ℕ → List ℕ → List ℕ
unfolding those numbers_from
entries_that which disk sectors = those (is_that which disk) (entries_of sectors)

abbrev pub listed : List ℕ → List ℕ
listed disk = entries_that true disk (directory disk).sectors

-- the bytes before the first A0
unfoldable pub before_a0 : List ℕ → List ℕ
before_a0 [] = []
before_a0 (b ∷ bs) = cond (eqb b 0xA0) [] (b ∷ before_a0 bs)

unfoldable pub name_at : List ℕ → ℕ → List ℕ
unfolding before_a0
name_at disk p = before_a0 (take 16 (drop (p + 3) disk))

-- "Names are bytes, compared as they are"
unfoldable pub same_name : List ℕ → List ℕ → Bool
same_name [] [] = true
same_name [] (b ∷ bs) = false
same_name (a ∷ rest) [] = false
same_name (a ∷ rest) (b ∷ bs) = eqb a b && same_name rest bs

abbrev pub is_named : List ℕ → List ℕ → ℕ → Bool
is_named disk name p = same_name (name_at disk p) name

-- of entries: each is of type 82, and none behind it has its name
unfoldable pub entries_good : List ℕ → List ℕ → Bool
unfolding some
entries_good disk [] = true
entries_good disk (p ∷ ps) = eqb (get_or disk p 0) 0x82 && not (some (is_named disk (name_at disk p)) ps) && entries_good disk ps

-- ---- the chains of files

abbrev pub chain_by : List ℕ → Link → Chain
chain_by disk (Last b) = broken_chain
chain_by disk (To n) = chain false disk n
chain_by disk Astray = broken_chain

-- an entry's chain
abbrev pub chain_of : List ℕ → ℕ → Chain
chain_of disk p = chain_by disk (link_at disk (p + 1))

-- the chains of entries one after the other, and whether each ends as it should
unfoldable pub chains : List ℕ → List ℕ → Chain
unfolding chain
chains disk [] = record { sectors = []; ends = true }
chains disk (p ∷ ps) =
    record { sectors = (chain_of disk p).sectors ++ (chains disk ps).sectors; ends = (chain_of disk p).ends && (chains disk ps).ends }
