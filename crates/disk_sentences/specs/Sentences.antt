-- Why a disk is not in order, as a sentence (docs/RULES.md, "Why a disk is not in order"). A sector is told as track/sector, an entry as its sector and its
-- place there from 1.
-- Assumes nothing.
use Rattle.std.specs.Prelude.{ℕ, ◌+◌, ◌/◌, ◌%◌, cond, List, [], ◌∷◌, ◌++◌, leb, length, get_or}
use Rattle.word_search.specs.Spelling.{bytes_of}
use Rattle.base_steps.specs.Decimal.{decimal}
use Rattle.list_bytes.specs.ByteTexts.{hex_byte}
use Rattle.disk_rules.specs.Places.{track_of, sector_of}
use Rattle.disk_rules.specs.Entries.{name_at}
use Rattle.disk_names.specs.Names.{name_shown}
use Rattle.disk_ways.specs.declared.Stop.{Stop}
use Rattle.disk_ways.specs.declared.Stop.TheVariants.{Ended, Astray, Barred, Again}
use Rattle.disk_why.specs.declared.Broken.{Broken}
use Rattle.disk_why.specs.declared.Broken.TheVariants.{Nothing, Length, Start, Directory, NotClosed, SameName, File, Free, Used, Beyond}

-- an entry's name; none where no entry stands
abbrev pub name_told : List ℕ → ℕ → List ℕ
name_told disk p = cond (leb (p + 30) (length disk)) (name_at disk p) []

abbrev pub place_text : ℕ → ℕ → List ℕ
place_text t s = decimal t ++ (0x2F ∷ decimal s)

abbrev pub about_text : List ℕ → ℕ → ℕ → List ℕ → List ℕ
about_text before t s after = before ++ (place_text t s ++ after)

abbrev pub sector_text : List ℕ → ℕ → List ℕ → List ℕ
sector_text before n after = about_text before (track_of n) (sector_of n) after

abbrev pub entry_text : ℕ → List ℕ
entry_text p = place_text (track_of (p / 256)) (sector_of (p / 256)) ++ (bytes_of ", " ++ decimal (1 + p % 256 / 32))

-- how a chain stops
abbrev pub stop_text : Stop → List ℕ
stop_text (Ended n b) = sector_text (bytes_of " ends at ") n (bytes_of " with a second byte of ") ++ decimal b
stop_text (Astray t s) = bytes_of " leaves the disk at " ++ place_text t s
stop_text (Barred n) = sector_text (bytes_of " goes to ") n (bytes_of ", where it may not be")
stop_text (Again n) = sector_text (bytes_of " comes to ") n (bytes_of ", which was met before")

abbrev pub type_text : List ℕ → ℕ → List ℕ
type_text disk p = bytes_of " is no closed PRG file (" ++ (hex_byte (get_or disk p 0) ++ bytes_of ")")

abbrev pub open_at_text : List ℕ → ℕ → List ℕ
open_at_text disk p = bytes_of " at " ++ (entry_text p ++ type_text disk p)

abbrev pub open_text : List ℕ → ℕ → List ℕ
open_text disk p = bytes_of "the entry " ++ (name_shown (name_told disk p) ++ open_at_text disk p)

abbrev pub twin_text : List ℕ → ℕ → List ℕ
twin_text disk q = bytes_of " and " ++ (entry_text q ++ (bytes_of " have one name, " ++ name_shown (name_told disk q)))

abbrev pub twins_text : List ℕ → ℕ → ℕ → List ℕ
twins_text disk p q = bytes_of "the entries at " ++ (entry_text p ++ twin_text disk q)

abbrev pub broken_text : List ℕ → Broken → List ℕ
broken_text disk Nothing = []
broken_text disk (Length n) = bytes_of "the disk has " ++ (decimal n ++ bytes_of " bytes, not 174848")
broken_text disk (Start t s) = about_text (bytes_of "18/0 links to ") t s (bytes_of ", not to 18/1")
broken_text disk (Directory stop) = bytes_of "the directory" ++ stop_text stop
broken_text disk (NotClosed p) = open_text disk p
broken_text disk (SameName p q) = twins_text disk p q
broken_text disk (File p stop) = bytes_of "the chain of " ++ (name_shown (name_told disk p) ++ stop_text stop)
broken_text disk (Free t s) = about_text (bytes_of "the map calls ") t s (bytes_of " free, which is in a chain")
broken_text disk (Used t s) = about_text (bytes_of "the map calls ") t s (bytes_of " used, which is in no chain")
broken_text disk (Beyond t s) = about_text (bytes_of "the map calls ") t s (bytes_of " free, which does not exist")
