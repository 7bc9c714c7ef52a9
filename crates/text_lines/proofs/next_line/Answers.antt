-- `text_lines::next_line` meets its contract.
-- Assumes nothing.
use native.Mathlib.Omega.{arith}
use Rattle.text_lines.proofs.Splitting.{seeking_none, seeking_start, seeking_passed, passed_less, seeking_turn, seeking_found, seeking_end, mark_small}
use Rattle.text_lines.proofs.next_line.Goals as goal

pub returns-then-text-from-eq10 : goal.returns-then-text-from-eq10
returns-then-text-from-eq10 c = search seeking_none

pub loop-i-init : goal.loop-i-init
loop-i-init c = search seeking_start

pub loop-i-smaller-then-text-i-gt13 : goal.loop-i-smaller-then-text-i-gt13
loop-i-smaller-then-text-i-gt13 c = search passed_less

pub loop-i-preserved-then-text-i-gt13 : goal.loop-i-preserved-then-text-i-gt13
loop-i-preserved-then-text-i-gt13 c = search seeking_passed

pub overflow_add-result-then-mark-gt0 : goal.overflow_add-result-then-mark-gt0
overflow_add-result-then-mark-gt0 c = omega (arith, mark_small _ _ c.end_mark-mark.ensures)

pub returns-then-mark-gt0 : goal.returns-then-mark-gt0
returns-then-mark-gt0 c = search seeking_found

pub loop-i-preserved : goal.loop-i-preserved
loop-i-preserved c = search seeking_turn

pub returns : goal.returns
returns c = search seeking_end
