-- `disk_check::chains_hold` meets its contract.
-- Assumes nothing.
use mathlib.Core.Path.{sym}
use native.Mathlib.Omega.{arith}
use lib.Seq.{length-take-le}
use Rattle.disk_check.proofs.Holding.{chains_met}
use Rattle.disk_check.proofs.Looking.{logged_sectors}
use borrow.Author.Rules.{rules}
use Rattle.disk_check.proofs.chains_hold.Goals as goal

pub slice_bounds-accounted-end : goal.slice_bounds-accounted-end
slice_bounds-accounted-end c = sym (length-take-le _ _ (omega arith))

pub accounted-requires : goal.accounted-requires
accounted-requires c = search (rules, logged_sectors)

pub returns-then-traced : goal.returns-then-traced
returns-then-traced c = search (chains_met, c.if-traced.true)
