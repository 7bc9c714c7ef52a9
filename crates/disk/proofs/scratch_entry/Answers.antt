-- `disk::scratch_entry` meets its contract.
-- Assumes nothing.
use mathlib.Core.Path.{sym}
use native.Mathlib.Omega.{arith}
use lib.Seq.{length-take-le}
use Rattle.disk.proofs.Calling.{traced_sectors, entry_scratched, scratch_long}
use borrow.Author.Rules.{rules}
use Rattle.disk.proofs.scratch_entry.Goals as goal

pub slice_bounds-mark_all-end : goal.slice_bounds-mark_all-end
slice_bounds-mark_all-end c = sym (length-take-le _ _ (omega arith))

pub mark_all-requires : goal.mark_all-requires
mark_all-requires c = search (rules, traced_sectors)

pub shape_of-disk : goal.shape_of-disk
shape_of-disk c = search scratch_long

pub returns : goal.returns
returns c = search entry_scratched
