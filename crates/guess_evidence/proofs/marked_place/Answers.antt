-- `guess_evidence::marked_place` meets its contract.
-- Assumes nothing.
use Rattle.guess_evidence.proofs.Steps.{scanned_start, gap_turn, scanned_proved, scanned_remark, scanned_stretch, scanned_end, on_fits, behind_some, behind_within}
use Rattle.guess_uses.proofs.Behind.{rest_some}
use Rattle.guess_uses.proofs.Marks.{marks_rest}
use Rattle.guess_places.proofs.Places.{stretch_fits, stretch_less}
use Rattle.guess_evidence.proofs.marked_place.Goals as goal

pub loop-i-init : goal.loop-i-init
loop-i-init c = search scanned_start

pub loop-i-preserved-then-is_gap : goal.loop-i-preserved-then-is_gap
loop-i-preserved-then-is_gap c = search gap_turn

pub evidence_step-requires : goal.evidence_step-requires
evidence_step-requires c = search (rest_some, marks_rest)

pub returns-in-Proved : goal.returns-in-Proved
returns-in-Proved c = search scanned_proved

pub returns-in-Remark : goal.returns-in-Remark
returns-in-Remark c = search scanned_remark

pub overflow_add-behind : goal.overflow_add-behind
overflow_add-behind c = search on_fits

pub slice_bounds-stretch-count : goal.slice_bounds-stretch-count
slice_bounds-stretch-count c = search behind_within

pub slice_bounds-stretch-start : goal.slice_bounds-stretch-start
slice_bounds-stretch-start c = search behind_within

pub overflow_add-i-in-On : goal.overflow_add-i-in-On
overflow_add-i-in-On c = search (stretch_fits, behind_within)

pub loop-i-smaller : goal.loop-i-smaller
loop-i-smaller c = search (stretch_less, behind_some, behind_within)

pub loop-i-preserved : goal.loop-i-preserved
loop-i-preserved c = search scanned_stretch

pub returns : goal.returns
returns c = search scanned_end
