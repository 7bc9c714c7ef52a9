-- `image_index::put_jump` meets its contract.
-- Assumes nothing.
use Rattle.base_bits.proofs.Pens.{drawn_same}
use Rattle.image_index.proofs.Putting.{kept_ready, kept_drawn, left_drawn}
use borrow.Author.Rules.{rules}
use Rattle.image_index.proofs.put_jump.Goals as goal

pub returns-then-has_mark : goal.returns-then-has_mark
returns-then-has_mark c = search left_drawn

pub put_pair-requires : goal.put_pair-requires
put_pair-requires c = search (kept_ready, rules)

pub returns-else-has_mark : goal.returns-else-has_mark
returns-else-has_mark c = search kept_drawn

pub shape_of-out : goal.shape_of-out
shape_of-out c = drawn_same _ _ _ (returns-else-has_mark c)
