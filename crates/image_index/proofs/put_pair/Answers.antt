-- `image_index::put_pair` meets its contract.
-- Assumes nothing.
use Rattle.base_bits.proofs.Pens.{drawn_same}
use Rattle.image_index.proofs.Putting.{pair_first, pair_second, pair_drawn}
use borrow.Author.Rules.{rules}
use Rattle.image_index.proofs.put_pair.Goals as goal

pub put_field-behind-requires : goal.put_field-behind-requires
put_field-behind-requires c = search (pair_first, rules)

pub put_field-requires : goal.put_field-requires
put_field-requires c = search (pair_second, rules)

pub returns : goal.returns
returns c = search pair_drawn

pub shape_of-out : goal.shape_of-out
shape_of-out c = drawn_same _ _ _ (returns c)
