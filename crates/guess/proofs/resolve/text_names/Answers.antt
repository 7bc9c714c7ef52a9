-- `guess::resolve::text_names` meets its contract.
-- Assumes nothing.
use Rattle.guess.proofs.Texts.{gathered_start, gathered_turn, gathered_end, gathered_room, line_high, line_less, line_low}
use Rattle.guess.proofs.resolve.text_names.Goals as goal

pub loop-at-init : goal.loop-at-init
loop-at-init c = search gathered_start

pub slice_bounds-line_names-count : goal.slice_bounds-line_names-count
slice_bounds-line_names-count c = search line_low

pub slice_bounds-line_names-start : goal.slice_bounds-line_names-start
slice_bounds-line_names-start c = search line_low

pub slice_bounds-line_names-end : goal.slice_bounds-line_names-end
slice_bounds-line_names-end c = search line_high

pub line_names-requires : goal.line_names-requires
line_names-requires c = search gathered_room

pub loop-at-smaller : goal.loop-at-smaller
loop-at-smaller c = search line_less

pub loop-at-preserved : goal.loop-at-preserved
loop-at-preserved c = search gathered_turn

pub returns : goal.returns
returns c = search gathered_end
