-- `image_index::write_report` meets its contract.
-- Assumes nothing.
use Rattle.std.proofs.lemmas.Result.{err_from_is_err_and}
use Rattle.image_index.proofs.Whole.{check_faultless}
use Rattle.image_index.proofs.Reporting.{check_marked, report_unread}
use Rattle.image_index.proofs.write_report.Goals as goal

pub report_lines-requires : goal.report_lines-requires
report_lines-requires c = (search (check_faultless, c.in_ok-overview.was), search (check_marked, c.in_ok-overview.was))

pub returns-in_err-overview : goal.returns-in_err-overview
returns-in_err-overview c = let p = err_from_is_err_and c.from_residual.result c.from_residual.ensures.1 in rw (p.1, p.2) (search (report_unread, c.in_err-overview.was))
