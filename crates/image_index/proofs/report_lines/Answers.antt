-- `image_index::report_lines` meets its contract.
-- Assumes nothing.
use Rattle.std.proofs.lemmas.Result.{err_from_is_err_and}
use Rattle.base_lent.proofs.Storing.{put_long}
use Rattle.image_index.proofs.Whole.{mul_fits, report_fits}
use Rattle.image_index.proofs.Reporting.{report_many, report_high, report_none, report_room, report_stored}
use borrow.Author.Rules.{rules}
use Rattle.image_index.proofs.report_lines.Goals as goal

pub returns-then-lines-gt8191 : goal.returns-then-lines-gt8191
returns-then-lines-gt8191 c = search report_many

pub returns-in_err-jumps : goal.returns-in_err-jumps
returns-in_err-jumps c = let p = err_from_is_err_and c.from_residual.result c.from_residual.ensures.1 in rw (p.1, p.2) (search (report_high, c.in_err-jumps.was))

pub overflow_mul-needed : goal.overflow_mul-needed
overflow_mul-needed c = search (mul_fits, c.in_ok-jumps.was)

pub overflow_add-needed : goal.overflow_add-needed
overflow_add-needed c = search (report_fits, c.in_ok-jumps.was)

pub returns-then-needed-out : goal.returns-then-needed-out
returns-then-needed-out c = search (report_none, c.in_ok-jumps.was)

pub put_report-requires : goal.put_report-requires
put_report-requires c = search (report_room, c.in_ok-jumps.was, rules)

pub shape_of-out : goal.shape_of-out
shape_of-out c = search put_long

pub returns : goal.returns
returns c = search (report_stored, c.in_ok-jumps.was)
