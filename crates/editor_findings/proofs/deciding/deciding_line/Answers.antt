-- `editor_findings::deciding::deciding_line` meets its contract.
-- Assumes nothing.
use Rattle.guess.proofs.Texts.{line_low, line_high, line_less}
use Rattle.editor_findings.proofs.Undecided.{undecided_start, undecided_found, undecided_turn, undecided_end, count_fits}
use Rattle.editor_findings.proofs.deciding.deciding_line.Goals as goal

pub loop-at-init : goal.loop-at-init
loop-at-init c = search undecided_start

pub overflow_add-k : goal.overflow_add-k
overflow_add-k c = search count_fits

pub slice_bounds-line_evidence-count : goal.slice_bounds-line_evidence-count
slice_bounds-line_evidence-count c = search line_low

pub slice_bounds-line_evidence-start : goal.slice_bounds-line_evidence-start
slice_bounds-line_evidence-start c = search line_low

pub slice_bounds-line_evidence-end : goal.slice_bounds-line_evidence-end
slice_bounds-line_evidence-end c = search line_high

pub returns-then-line_evidence : goal.returns-then-line_evidence
returns-then-line_evidence c = search undecided_found

pub loop-at-smaller : goal.loop-at-smaller
loop-at-smaller c = search line_less

pub loop-at-preserved : goal.loop-at-preserved
loop-at-preserved c = search undecided_turn

pub returns : goal.returns
returns c = search undecided_end
