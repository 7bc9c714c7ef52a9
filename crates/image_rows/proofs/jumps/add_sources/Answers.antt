-- `image_rows::jumps::add_sources` meets its contract.
-- Assumes nothing.
use Rattle.base_lent.proofs.Storing.{put_long}
use Rattle.image_rows.proofs.Threading.{sourcing_start, sourcing_room, sourcing_turn, sourcing_last, sourcing_end}
use borrow.Author.Rules.{rules}
use Rattle.image_rows.proofs.jumps.add_sources.Goals as goal

pub loop-left-init : goal.loop-left-init
loop-left-init c = search sourcing_start

pub add_row-to-requires : goal.add_row-to-requires
add_row-to-requires c = search (rules, sourcing_room)

pub returns-then-place-eq0 : goal.returns-then-place-eq0
returns-then-place-eq0 c = search sourcing_last

pub shape_of-out-then-place-eq0 : goal.shape_of-out-then-place-eq0
shape_of-out-then-place-eq0 c = put_long (returns-then-place-eq0 c).put

pub loop-left-preserved : goal.loop-left-preserved
loop-left-preserved c = search (sourcing_turn, c.if-place-eq0.false)

pub returns : goal.returns
returns c = search sourcing_end

pub shape_of-out : goal.shape_of-out
shape_of-out c = put_long (returns c).put
