-- `image_index::put_index` meets its contract.
-- Assumes nothing.
use Rattle.base_lent.proofs.Storing.{put_long}
use Rattle.image_index.proofs.Putting.{index_first, index_second, index_third, index_last, index_put}
use borrow.Author.Rules.{rules}
use Rattle.image_index.proofs.put_index.Goals as goal

pub put_field-first-requires : goal.put_field-first-requires
put_field-first-requires c = search (index_first, rules)

pub put_lines-second-requires : goal.put_lines-second-requires
put_lines-second-requires c = search index_second

pub put_jumps-third-requires : goal.put_jumps-third-requires
put_jumps-third-requires c = search index_third

pub finish-requires : goal.finish-requires
finish-requires c = search index_last

pub returns : goal.returns
returns c = search index_put

pub shape_of-out : goal.shape_of-out
shape_of-out c = put_long (returns c)
