-- Any disk read (docs/RULES.md, "Any disk read"): what can be read of an image that the check may refuse, by the way of each chain, whatever the map says.
-- Assumes nothing.
use Rattle.std.specs.Prelude.{ℕ, zero, suc, ◌+◌, ◌*◌, true, cond, List, [], ◌∷◌, leb, eqb, length, get_or}
use Rattle.std.proofs.lemmas.List.Edits.{sets}
use Rattle.disk_rules.specs.Entries.{entries_that, name_at}
use Rattle.disk_rules.specs.Calls.{chain_bytes}
use Rattle.disk_ways.specs.Ways.{none_met, Way, way, way_of, ends_as}
use Rattle.disk_ways.specs.declared.Over.TheVariants.{Tracks}
use Rattle.disk_ways.specs.declared.Stop.{Stop}
use Rattle.disk_any.specs.declared.DiskKind.{DiskKind}
use Rattle.disk_any.specs.declared.DiskKind.TheVariants.{D64, D71, D81, Other}
use Rattle.std.specs.Prelude.{Option, Some, None, Result, Ok, Err}
use Rattle.disk_any.specs.declared.Entry.{Entry}
use Rattle.disk_any.specs.declared.Unread.{Unread}
use Rattle.disk_any.specs.declared.Unread.TheVariants.{NoEntry, Stopped, NoRoom}

-- "174,848 and 175,531 bytes are 35 tracks, 196,608 and 197,376 are 40; D71 and D81 are told by their size"
abbrev pub disk_kind : ℕ → DiskKind
disk_kind n =
    cond (eqb n 174848) (D64 35)
    (cond (eqb n 175531) (D64 35)
    (cond (eqb n 196608) (D64 40)
    (cond (eqb n 197376) (D64 40)
    (cond (eqb n 349696) D71
    (cond (eqb n 351062) D71
    (cond (eqb n 819200) D81
    (cond (eqb n 822400) D81 Other)))))))

-- ---- the directory

-- the directory's way, from 18/1 on, over at most the 768 sectors of 40 tracks
abbrev pub directory_on : ℕ → List ℕ → Way
directory_on tracks disk = way (Tracks tracks) 768 disk none_met 358

-- how it stops
abbrev pub stop_by : List ℕ → DiskKind → Option Stop
stop_by disk (D64 tracks) = Some (directory_on tracks disk).stop
stop_by disk D71 = None
stop_by disk D81 = None
stop_by disk Other = None

-- "every entry of the directory whose type is not 00, in the chain's order"
abbrev pub listed_by : List ℕ → DiskKind → List ℕ
listed_by disk (D64 tracks) = entries_that true disk (directory_on tracks disk).sectors
listed_by disk D71 = []
listed_by disk D81 = []
listed_by disk Other = []

unfoldable pub any_listed : List ℕ → List ℕ
any_listed disk = listed_by disk (disk_kind (length disk))

-- where the entry at a place stands, the places counted from 0
unfoldable pub spot_from : List ℕ → ℕ → Option ℕ
spot_from [] n = None
spot_from (p ∷ ps) zero = Some p
spot_from (p ∷ ps) (suc n) = spot_from ps n

unfoldable pub any_spot : List ℕ → ℕ → Option ℕ
any_spot disk n = spot_from (any_listed disk) n

-- its type, the track and the sector that its file begins with, and how many sectors it says to have
abbrev pub entry_on : List ℕ → ℕ → Entry
entry_on disk p =
    record {
      kind = get_or disk p 0;
      track = get_or disk (p + 1) 0;
      sector = get_or disk (p + 2) 0;
      sectors = get_or disk (p + 28) 0 + 256 * get_or disk (p + 29) 0;
    }

abbrev pub entry_told : List ℕ → Option ℕ → Option Entry
entry_told disk (Some p) = Some (entry_on disk p)
entry_told disk None = None

-- its name; none where there is no entry
abbrev pub name_of : List ℕ → Option ℕ → List ℕ
name_of disk (Some p) = name_at disk p
name_of disk None = []

-- ---- a file

abbrev pub file_on : ℕ → List ℕ → ℕ → Way
file_on tracks disk p = way_of (Tracks tracks) 768 disk none_met p

-- what is answered, and what the buffer then holds
pub record ReadInto : Type 0 where
  pub answer : Result ℕ Unread
  pub buffer : List ℕ

-- bytes into a buffer that has room for them
abbrev pub lent_bytes : List ℕ → List ℕ → ReadInto
lent_bytes bytes out =
    cond (leb (length bytes) (length out)) (record { answer = Ok (length bytes); buffer = sets out 0 bytes }) (record { answer = Err (NoRoom (length bytes)); buffer = out })

-- "a file is what its chain gives, where the chain stays on the disk and meets no sector twice; else it is told how the chain stops"
abbrev pub read_by : List ℕ → Way → List ℕ → ReadInto
read_by disk w out = cond (ends_as true w.stop) (lent_bytes (chain_bytes disk w.sectors) out) (record { answer = Err (Stopped w.stop); buffer = out })

abbrev pub read_at : List ℕ → DiskKind → Option ℕ → List ℕ → ReadInto
read_at disk (D64 tracks) (Some p) out = read_by disk (file_on tracks disk p) out
read_at disk (D64 tracks) None out = record { answer = Err NoEntry; buffer = out }
read_at disk D71 s out = record { answer = Err NoEntry; buffer = out }
read_at disk D81 s out = record { answer = Err NoEntry; buffer = out }
read_at disk Other s out = record { answer = Err NoEntry; buffer = out }

unfoldable pub any_file : List ℕ → ℕ → List ℕ → ReadInto
any_file disk n out = read_at disk (disk_kind (length disk)) (any_spot disk n) out
