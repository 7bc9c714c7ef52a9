-- `disk::read_entry` meets its contract.
-- Assumes nothing.
use mathlib.Core.Path.{sym}
use native.Mathlib.Omega.{arith}
use lib.Seq.{length-take-le}
use Rattle.disk_bytes.proofs.Taking.{below_lies}
use Rattle.disk.proofs.Calling.{traced_below, entry_none, entry_read}
use borrow.Author.Rules.{rules}
use Rattle.disk.proofs.read_entry.Goals as goal

pub slice_bounds-measure-end : goal.slice_bounds-measure-end
slice_bounds-measure-end c = sym (length-take-le _ _ (omega arith))

pub measure-needed-requires : goal.measure-needed-requires
measure-needed-requires c = search (rules, traced_below)

pub returns-then-needed-out : goal.returns-then-needed-out
returns-then-needed-out c = search entry_none

pub slice_bounds-take_out-end : goal.slice_bounds-take_out-end
slice_bounds-take_out-end c = sym (length-take-le _ _ (omega arith))

pub take_out-requires : goal.take_out-requires
take_out-requires c = search (rules, below_lies, traced_below)

pub returns : goal.returns
returns c = search entry_read
