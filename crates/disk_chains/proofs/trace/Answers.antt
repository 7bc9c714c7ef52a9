-- `disk_chains::trace` meets its contract.
-- Assumes nothing.
use native.Mathlib.Omega.{arith}
use lib.ListN.{length-set}
use Rattle.disk_chains.proofs.Tracing.{trace_start, trace_full, trace_not, trace_fits, trace_room, trace_last, trace_astray, trace_turn}
use Rattle.disk_chains.proofs.trace.Goals as goal

pub loop-i-init : goal.loop-i-init
loop-i-init c = search trace_start

pub returns-then-not-may_hold : goal.returns-then-not-may_hold
returns-then-not-may_hold c = search trace_not

pub overflow_mul-n : goal.overflow_mul-n
overflow_mul-n c = search trace_fits

pub link_at-requires : goal.link_at-requires
link_at-requires c = search trace_room

pub shape_of-log-in-Last : goal.shape_of-log-in-Last
shape_of-log-in-Last c = simp length-set (omega arith)

pub returns-in-Last : goal.returns-in-Last
returns-in-Last c = search trace_last

pub loop-i-preserved : goal.loop-i-preserved
loop-i-preserved c = search trace_turn

pub shape_of-log-in-Astray : goal.shape_of-log-in-Astray
shape_of-log-in-Astray c = simp length-set (omega arith)

pub returns-in-Astray : goal.returns-in-Astray
returns-in-Astray c = search trace_astray

pub returns : goal.returns
returns c = search trace_full
