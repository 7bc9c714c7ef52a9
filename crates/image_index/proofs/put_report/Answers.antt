-- `image_index::put_report` meets its contract.
-- Assumes nothing.
use Rattle.base_lent.proofs.Storing.{put_long}
use Rattle.image_index.proofs.Reporting.{report_ready, report_last, report_put}
use borrow.Author.Rules.{rules}
use Rattle.image_index.proofs.put_report.Goals as goal

pub put_jumps-pen-requires : goal.put_jumps-pen-requires
put_jumps-pen-requires c = search (report_ready, rules)

pub finish-requires : goal.finish-requires
finish-requires c = search report_last

pub returns : goal.returns
returns c = search report_put

pub shape_of-out : goal.shape_of-out
shape_of-out c = put_long (returns c)
