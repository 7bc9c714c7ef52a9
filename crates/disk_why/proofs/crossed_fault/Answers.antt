-- `disk_why::crossed_fault` meets its contract.
-- Assumes nothing.
use Rattle.disk_why.proofs.Faults.{cross_start, cross_room, cross_marks, cross_found, cross_turn, cross_end}
use borrow.Author.Rules.{rules}
use Rattle.disk_why.proofs.crossed_fault.Goals as goal

pub loop-p-init : goal.loop-p-init
loop-p-init c = search cross_start

pub file_stop-stop-requires : goal.file_stop-stop-requires
file_stop-stop-requires c = search (rules, cross_room, cross_marks)

pub returns-then-not-ends_as : goal.returns-then-not-ends_as
returns-then-not-ends_as c = search cross_found

pub loop-p-preserved : goal.loop-p-preserved
loop-p-preserved c = search cross_turn

pub returns : goal.returns
returns c = search cross_end
