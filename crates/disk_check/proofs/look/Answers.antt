-- `disk_check::look` meets its contract.
-- Assumes nothing.
use mathlib.Core.Path.{sym}
use native.Mathlib.Omega.{arith}
use lib.Seq.{length-take-le}
use Rattle.disk_check.proofs.Looking.{seen_directory, seen_ends, seen_sectors, seen_room, seen_after, seen_listed, seen_all, seen_none}
use borrow.Author.Rules.{rules}
use Rattle.disk_check.proofs.look.Goals as goal

pub slice_bounds-entries_that-end-2 : goal.slice_bounds-entries_that-end-2
slice_bounds-entries_that-end-2 c = sym (length-take-le _ _ (omega arith))

pub entries_that-f-requires : goal.entries_that-f-requires
entries_that-f-requires c = search (rules, seen_sectors, seen_room)

pub slice_bounds-holds-end-3 : goal.slice_bounds-holds-end-3
slice_bounds-holds-end-3 c = search seen_after

pub slice_bounds-holds-end-4 : goal.slice_bounds-holds-end-4
slice_bounds-holds-end-4 c = sym (length-take-le _ _ (search seen_after))

pub holds-requires : goal.holds-requires
holds-requires c = search (rules, seen_directory, seen_ends, seen_listed)

pub returns-then-holds : goal.returns-then-holds
returns-then-holds c = search (seen_all, c.if-holds.true)

pub returns-else-holds : goal.returns-else-holds
returns-else-holds c = search (seen_none, c.if-holds.false)
