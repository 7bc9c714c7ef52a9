-- `base_bits::finish` meets its contract.
-- Assumes nothing.
use Rattle.base_lent.proofs.Storing.{put_long}
use Rattle.base_bits.proofs.Pens.{closing_start, zero_place, closing_turn, closing_less, closing_end}
use borrow.Author.Rules.{rules}
use Rattle.base_bits.proofs.finish.Goals as goal

pub loop-pen-init : goal.loop-pen-init
loop-pen-init c = search closing_start

pub put_bit-pen-requires : goal.put_bit-pen-requires
put_bit-pen-requires c = search (zero_place, rules)

pub loop-pen-smaller : goal.loop-pen-smaller
loop-pen-smaller c = search closing_less

pub loop-pen-preserved : goal.loop-pen-preserved
loop-pen-preserved c = search closing_turn

pub returns : goal.returns
returns c = search closing_end

pub shape_of-out : goal.shape_of-out
shape_of-out c = put_long (returns c)
