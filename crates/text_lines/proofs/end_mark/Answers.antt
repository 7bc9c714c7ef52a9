-- `text_lines::end_mark` meets its contract: a law for each answer.
-- Assumes nothing.
use Rattle.text_lines.proofs.Splitting.{mark_lf, mark_none, cr_some, mark_two, mark_given, mark_lone}
use Rattle.text_lines.proofs.end_mark.Goals as goal

pub returns-then-starts_with : goal.returns-then-starts_with
returns-then-starts_with c = search mark_lf

pub returns-then-not-starts_with : goal.returns-then-not-starts_with
returns-then-not-starts_with c = search mark_none

pub slice_bounds-starts_with-count : goal.slice_bounds-starts_with-count
slice_bounds-starts_with-count c = search cr_some

pub slice_bounds-starts_with-start : goal.slice_bounds-starts_with-start
slice_bounds-starts_with-start c = search cr_some

pub returns-then-starts_with-2 : goal.returns-then-starts_with-2
returns-then-starts_with-2 c = search mark_two

pub returns-in-AsGiven : goal.returns-in-AsGiven
returns-in-AsGiven c = search mark_given

pub returns-in-AfterCr : goal.returns-in-AfterCr
returns-in-AfterCr c = search mark_lone
