-- `image_marks::mark_numbers` meets its contract.
-- Assumes nothing.
use native.Mathlib.Omega.{arith}
use lib.ListN.{length-set}
use Rattle.base_refusals.proofs.Tight.{inner}
use Rattle.image_marks.proofs.Marking.{marks_start, marks_turn, marks_past, marks_less, marks_end, marks_fault}
use borrow.Author.Rules.{rules}
use Rattle.image_marks.proofs.mark_numbers.Goals as goal

pub loop-line-init : goal.loop-line-init
loop-line-init c = (search marks_start, search rules)

pub loop-line-smaller-then-number-marked : goal.loop-line-smaller-then-number-marked
loop-line-smaller-then-number-marked c = search (marks_less, inner)

pub loop-line-preserved-then-number-marked : goal.loop-line-preserved-then-number-marked
loop-line-preserved-then-number-marked c = (search (marks_turn, inner), simp length-set (omega arith))

pub loop-line-smaller : goal.loop-line-smaller
loop-line-smaller c = search (marks_less, inner)

pub loop-line-preserved : goal.loop-line-preserved
loop-line-preserved c = (search (marks_past, inner), search rules)

pub returns-in_default : goal.returns-in_default
returns-in_default c = search (marks_end, inner)

pub returns-in_default-2 : goal.returns-in_default-2
returns-in_default-2 c = search marks_fault
