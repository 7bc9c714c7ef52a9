-- `disk_any::file_on` meets its contract.
-- Assumes nothing.
use mathlib.Core.Path.{sym}
use native.Mathlib.Omega.{arith}
use lib.Seq.{length-take-le}
use Rattle.disk_bytes.proofs.Taking.{below_lies}
use Rattle.disk_any.proofs.Locating.{file_below, file_stopped, file_no_room, file_done}
use borrow.Author.Rules.{rules}
use Rattle.disk_any.proofs.file_on.Goals as goal

pub returns-then-not-ends_as : goal.returns-then-not-ends_as
returns-then-not-ends_as c = search file_stopped

pub slice_bounds-measure-end : goal.slice_bounds-measure-end
slice_bounds-measure-end c = sym (length-take-le _ _ (omega arith))

pub measure-needed-requires : goal.measure-needed-requires
measure-needed-requires c = search file_below

pub returns-then-needed-out : goal.returns-then-needed-out
returns-then-needed-out c = search file_no_room

pub slice_bounds-take_out-end : goal.slice_bounds-take_out-end
slice_bounds-take_out-end c = sym (length-take-le _ _ (omega arith))

pub take_out-requires : goal.take_out-requires
take_out-requires c = search (rules, below_lies, file_below)

pub returns : goal.returns
returns c = search file_done
