-- `disk_any::locate_on` meets its contract.
-- Assumes nothing.
use mathlib.Core.Path.{sym}
use native.Mathlib.Omega.{arith}
use lib.Seq.{length-take-le}
use Rattle.disk_any.proofs.Locating.{holds_low, holds_first, directory_below, directory_placed}
use borrow.Author.Rules.{rules}
use Rattle.disk_any.proofs.locate_on.Goals as goal

pub follow-followed-requires : goal.follow-followed-requires
follow-followed-requires c = search (rules, holds_low, holds_first)

pub slice_bounds-seek-end : goal.slice_bounds-seek-end
slice_bounds-seek-end c = sym (length-take-le _ _ (omega arith))

pub seek-requires : goal.seek-requires
seek-requires c = search directory_below

pub returns : goal.returns
returns c = search directory_placed
