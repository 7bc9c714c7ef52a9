-- `guess::resolve::text_evidence` meets its contract.
-- Assumes nothing.
use Rattle.guess.proofs.Texts.{unproved_start, unproved_found, unproved_turn, unproved_end, line_high, line_less, line_up}
use Rattle.guess.proofs.resolve.text_evidence.Goals as goal

pub loop-at-init : goal.loop-at-init
loop-at-init c = search unproved_start

pub slice_bounds-line_evidence-count : goal.slice_bounds-line_evidence-count
slice_bounds-line_evidence-count c = search line_up

pub slice_bounds-line_evidence-start : goal.slice_bounds-line_evidence-start
slice_bounds-line_evidence-start c = search line_up

pub slice_bounds-line_evidence-end : goal.slice_bounds-line_evidence-end
slice_bounds-line_evidence-end c = search line_high

pub returns-then-line_evidence : goal.returns-then-line_evidence
returns-then-line_evidence c = search unproved_found

pub loop-at-smaller : goal.loop-at-smaller
loop-at-smaller c = search line_less

pub loop-at-preserved : goal.loop-at-preserved
loop-at-preserved c = search unproved_turn

pub returns : goal.returns
returns c = search unproved_end
