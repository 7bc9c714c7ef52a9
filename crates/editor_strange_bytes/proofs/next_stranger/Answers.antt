-- `editor_strange_bytes::next_stranger` meets its contract.
-- Assumes nothing.
use Rattle.editor_strange_bytes.proofs.Knowing.{stranger_none, stranger_long, stranger_fine, stranger_there, bad_within, bad_fits}
use Rattle.editor_strange_bytes.proofs.next_stranger.Goals as goal

pub returns-then-text-from : goal.returns-then-text-from
returns-then-text-from c = search stranger_none

pub returns-then-rest-gt1048576 : goal.returns-then-rest-gt1048576
returns-then-rest-gt1048576 c = search stranger_long

pub slice_bounds-strange-count : goal.slice_bounds-strange-count
slice_bounds-strange-count c = search bad_within

pub slice_bounds-strange-start : goal.slice_bounds-strange-start
slice_bounds-strange-start c = search bad_within

pub overflow_add-result : goal.overflow_add-result
overflow_add-result c = search bad_fits

pub returns-in-Ok : goal.returns-in-Ok
returns-in-Ok c = search (stranger_fine, stranger_there)

pub returns-in-Err : goal.returns-in-Err
returns-in-Err c = search (stranger_fine, stranger_there)
