-- `desk_check::disks::check_entries` is safe and ends.
-- Assumes nothing.
use Prim.Native.Nat.{ℕ, ◌+◌, ◌≤◌, ◌<◌}
use mathlib.Core.List.{List}
use lib.ListN.{length, get_or}
use Rattle.disk_entries.specs.EntryHelpers.{Entries}
use borrow.Author.Rules.{rules}
use Rattle.desk_check.proofs.disks.check_entries.Goals as goal

entry_in : {l : List ℕ} {i : ℕ} → Entries l → i < length l → get_or l i 0 + 30 ≤ 174848
entry_in {i = i} k h = k.within i h

pub check_entry-requires : goal.check_entry-requires
check_entry-requires c = search (rules, entry_in)
