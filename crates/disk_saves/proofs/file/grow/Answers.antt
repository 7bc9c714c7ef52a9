-- `disk_saves::file::grow` meets its contract.
-- Assumes nothing.
use native.Mathlib.Omega.{arith}
use lib.ListN.{length-set}
use Rattle.disk_saves.proofs.Writing.{grow_made, grow_long}
use borrow.Author.Rules.{rules}
use Rattle.disk_saves.proofs.file.grow.Goals as goal

pub bounds-disk-at-2 : goal.bounds-disk-at-2
bounds-disk-at-2 c = simp length-set (omega arith)

pub mark-requires : goal.mark-requires
mark-requires c = simp length-set (search rules)

pub shape_of-disk : goal.shape_of-disk
shape_of-disk c = search grow_long

pub returns : goal.returns
returns c = search grow_made
