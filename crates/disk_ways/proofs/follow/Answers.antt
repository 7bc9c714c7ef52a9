-- `disk_ways::follow` meets its contract.
-- Assumes nothing.
use native.Mathlib.Omega.{arith}
use lib.ListN.{length-set}
use Rattle.disk_ways.proofs.Following.{follow_start, follow_mark, follow_full, follow_barred, follow_again, follow_last, follow_astray, follow_turn, follow_room, follow_fits}
use borrow.Author.Rules.{rules}
use Rattle.disk_ways.proofs.follow.Goals as goal

pub loop-i-init : goal.loop-i-init
loop-i-init c = search follow_start

pub returns-then-not-may_go : goal.returns-then-not-may_go
returns-then-not-may_go c = search follow_barred

pub bounds-marks-n : goal.bounds-marks-n
bounds-marks-n c = search follow_mark

pub returns-then-marks-n : goal.returns-then-marks-n
returns-then-marks-n c = search follow_again

pub bounds-marks-n-in-loop-i : goal.bounds-marks-n-in-loop-i
bounds-marks-n-in-loop-i c = search follow_mark

pub overflow_mul-n : goal.overflow_mul-n
overflow_mul-n c = search follow_fits

pub link_on-requires : goal.link_on-requires
link_on-requires c = search (rules, follow_room)

pub shape_of-log-in-Last : goal.shape_of-log-in-Last
shape_of-log-in-Last c = simp length-set (omega arith)

pub shape_of-marks-in-Last : goal.shape_of-marks-in-Last
shape_of-marks-in-Last c = simp length-set (omega arith)

pub returns-in-Last : goal.returns-in-Last
returns-in-Last c = search follow_last

pub loop-i-preserved : goal.loop-i-preserved
loop-i-preserved c = search follow_turn

pub shape_of-log-in-Astray : goal.shape_of-log-in-Astray
shape_of-log-in-Astray c = simp length-set (omega arith)

pub shape_of-marks-in-Astray : goal.shape_of-marks-in-Astray
shape_of-marks-in-Astray c = simp length-set (omega arith)

pub returns-in-Astray : goal.returns-in-Astray
returns-in-Astray c = search follow_astray

pub returns : goal.returns
returns c = search follow_full
