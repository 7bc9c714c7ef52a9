-- `image_index::put_lines` meets its contract.
-- Assumes nothing.
use Rattle.base_bits.proofs.Pens.{drawn_same}
use Rattle.base_refusals.proofs.Tight.{inner}
use Rattle.image_index.proofs.Putting.{lines_start, line_low, line_less, line_ready, line_turn, line_end, line_fault}
use borrow.Author.Rules.{rules}
use Rattle.image_index.proofs.put_lines.Goals as goal

pub loop-line-init : goal.loop-line-init
loop-line-init c = search lines_start

pub overflow_sub-line : goal.overflow_sub-line
overflow_sub-line c = search (line_low, inner)

pub put_pair-pen-requires : goal.put_pair-pen-requires
put_pair-pen-requires c = search (line_ready, rules, inner)

pub loop-line-smaller : goal.loop-line-smaller
loop-line-smaller c = search (line_less, inner)

pub loop-line-preserved : goal.loop-line-preserved
loop-line-preserved c = search (line_turn, inner)

pub returns-in_default : goal.returns-in_default
returns-in_default c = search (line_end, inner)

pub shape_of-out-in_default : goal.shape_of-out-in_default
shape_of-out-in_default c = drawn_same _ _ _ (returns-in_default c)

pub returns-in_default-2 : goal.returns-in_default-2
returns-in_default-2 c = search line_fault

pub shape_of-out-in_default-2 : goal.shape_of-out-in_default-2
shape_of-out-in_default-2 c = drawn_same _ _ _ (returns-in_default-2 c)
