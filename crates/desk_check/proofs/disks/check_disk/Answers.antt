-- `desk_check::disks::check_disk` is safe and ends.
-- Assumes nothing.
use mathlib.Core.Path.{sym}
use native.Mathlib.Omega.{arith}
use Prim.Native.Nat.{ℕ, ◌≤◌}
use mathlib.Core.List.{List}
use Rattle.disk_check.specs.SoundHelpers.{Saw}
use Rattle.disk_check.specs.declared.Seen.{Seen}
use lib.Seq.{length-take-le}
use Rattle.disk.proofs.Locating.{look_entries}
use borrow.Author.Rules.{rules}
use Rattle.desk_check.proofs.disks.check_disk.Goals as goal

many : {d : List ℕ} {s : Seen} {a b : List ℕ} → Saw d s a b → s.files ≤ 144
many k = k.many

pub slice_bounds-check_entries-end : goal.slice_bounds-check_entries-end
slice_bounds-check_entries-end c = sym (length-take-le _ _ (omega (arith, many c.in-Some.ensures)))

pub check_entries-run-requires : goal.check_entries-run-requires
check_entries-run-requires c = search (rules, look_entries, c.in-Some.ensures)
