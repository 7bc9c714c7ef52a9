-- `image_rows::jumps::add_rows` meets its contract.
-- Assumes nothing.
use Rattle.base_lent.proofs.Storing.{put_long}
use Rattle.image_references.proofs.Rows.{row_nearer}
use Rattle.image_rows.proofs.Threading.{rowing_start, rowing_room, rowing_sources, rowing_end_room, rowing_turn, rowing_fits, rowing_end}
use borrow.Author.Rules.{rules}
use Rattle.image_rows.proofs.jumps.add_rows.Goals as goal

pub loop-row-init : goal.loop-row-init
loop-row-init c = search rowing_start

pub add_target-colon-requires : goal.add_target-colon-requires
add_target-colon-requires c = search rowing_room

pub add_sources-end-requires : goal.add_sources-end-requires
add_sources-end-requires c = (search rowing_sources, search rules)

pub add_text-to-requires : goal.add_text-to-requires
add_text-to-requires c = (search rowing_end_room, search rules)

pub overflow_add-from : goal.overflow_add-from
overflow_add-from c = search rowing_fits

pub loop-row-smaller : goal.loop-row-smaller
loop-row-smaller c = search row_nearer

pub loop-row-preserved : goal.loop-row-preserved
loop-row-preserved c = search rowing_turn

pub returns : goal.returns
returns c = search rowing_end

pub shape_of-out : goal.shape_of-out
shape_of-out c = put_long (returns c)
