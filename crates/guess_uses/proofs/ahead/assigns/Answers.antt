-- `guess_uses::ahead::assigns` meets its contract.
-- Assumes nothing.
use Rattle.guess_uses.proofs.Behind.{assigns_list, assigns_plain, opens}
use Rattle.guess_uses.proofs.Marks.{assigns_marked, mark_within, some_marks}
use Rattle.base_ascii.proofs.Searching.{front_within}
use Rattle.guess_uses.proofs.ahead.assigns.Goals as goal

pub slice_bounds-rest-count : goal.slice_bounds-rest-count
slice_bounds-rest-count c = search front_within

pub slice_bounds-rest-start : goal.slice_bounds-rest-start
slice_bounds-rest-start c = search front_within

pub list_assigned-requires : goal.list_assigned-requires
list_assigned-requires c = search opens

pub returns-then-is_empty : goal.returns-then-is_empty
returns-then-is_empty c = search assigns_list

pub overflow_sub-rest : goal.overflow_sub-rest
overflow_sub-rest c = search opens

pub bit-requires : goal.bit-requires
bit-requires c = search (mark_within, some_marks _ c.is_empty.ensures c.if-is_empty.false)

pub returns-else-is_empty : goal.returns-else-is_empty
returns-else-is_empty c = search (assigns_marked, some_marks _ c.is_empty.ensures c.if-is_empty.false)

pub returns-then-not-starts_with : goal.returns-then-not-starts_with
returns-then-not-starts_with c = search assigns_plain
