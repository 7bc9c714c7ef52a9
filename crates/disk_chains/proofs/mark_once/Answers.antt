-- `disk_chains::mark_once` meets its contract.
-- Assumes nothing.
use native.Mathlib.Omega.{arith}
use lib.ListN.{length-set}
use Rattle.disk_chains.proofs.Marking.{mark_start, mark_in, mark_twice, mark_turn, mark_end}
use borrow.Author.Rules.{rules}
use Rattle.disk_chains.proofs.mark_once.Goals as goal

pub loop-i-init : goal.loop-i-init
loop-i-init c = (search mark_start, search rules)

pub bounds-marks-n : goal.bounds-marks-n
bounds-marks-n c = search mark_in

pub returns-then-marks-n : goal.returns-then-marks-n
returns-then-marks-n c = search mark_twice

pub bounds-marks-n-in-loop-i : goal.bounds-marks-n-in-loop-i
bounds-marks-n-in-loop-i c = search mark_in

pub loop-i-preserved : goal.loop-i-preserved
loop-i-preserved c = (search mark_turn, simp length-set (omega arith))

pub returns : goal.returns
returns c = search mark_end
