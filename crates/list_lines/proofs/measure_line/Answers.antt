-- `list_lines::measure_line` meets its contract.
-- Assumes nothing.
use Rattle.list_lines.proofs.Lining.{line_length_lem, line_fits, line_fits_so_far}
use Rattle.list_lines.proofs.measure_line.Goals as goal

pub overflow_add-result : goal.overflow_add-result
overflow_add-result c = search line_fits_so_far

pub overflow_add-result-2 : goal.overflow_add-result-2
overflow_add-result-2 c = search line_fits

pub returns : goal.returns
returns c = search line_length_lem
