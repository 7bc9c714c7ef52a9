-- `disk_why::why` meets its contract.
-- Assumes nothing.
use mathlib.Core.Path.{sym}
use native.Mathlib.Omega.{arith}
use lib.Seq.{length-take-le}
use Rattle.disk_rules.specs.Places.{sectors_before}
use Rattle.disk_why.proofs.Told.{why_length, why_track, why_sector, why_directory, why_listed, found_sectors, found_room, found_count, found_listed, found_entries}
use borrow.Author.Rules.{rules}
use Rattle.disk_why.proofs.why.Goals as goal

pub returns-then-disk-ne174848 : goal.returns-then-disk-ne174848
returns-then-disk-ne174848 c = search (why_length, c.if-disk-ne174848.true)

pub returns-then-disk-ne18 : goal.returns-then-disk-ne18
returns-then-disk-ne18 c = search (why_track, c.if-disk-ne18.true)

pub returns-then-disk-ne1 : goal.returns-then-disk-ne1
returns-then-disk-ne1 c = search (why_sector, c.if-disk-ne1.true)

pub follow-followed-requires : goal.follow-followed-requires
unfolding sectors_before
follow-followed-requires c = search rules

pub returns-then-not-ends_as : goal.returns-then-not-ends_as
returns-then-not-ends_as c = search why_directory

pub slice_bounds-entries_that-end : goal.slice_bounds-entries_that-end
slice_bounds-entries_that-end c = sym (length-take-le _ _ (omega arith))

pub entries_that-count-requires : goal.entries_that-count-requires
entries_that-count-requires c = search (rules, found_sectors, found_room)

pub slice_bounds-files-end : goal.slice_bounds-files-end
slice_bounds-files-end c = omega (arith, found_count _ c.follow-followed.ensures c.entries_that-count.ensures)

pub slice_bounds-listed_fault-end : goal.slice_bounds-listed_fault-end
slice_bounds-listed_fault-end c = sym (length-take-le _ _ (omega (arith, found_count _ c.follow-followed.ensures c.entries_that-count.ensures)))

pub listed_fault-requires : goal.listed_fault-requires
listed_fault-requires c = search (rules, found_entries)

pub returns : goal.returns
returns c = search (why_listed, found_listed)
