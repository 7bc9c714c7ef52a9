-- `count_images::join` meets its contract.
-- Assumes nothing.
use Rattle.count_images.proofs.Joining.{taken_there, images_fit, passed_small, join_no_totals, join_no_other, join_too_many, join_both}
use Rattle.count_images.proofs.join.Goals as goal

pub returns-then-not-are_totals : goal.returns-then-not-are_totals
returns-then-not-are_totals c = search join_no_totals

pub returns-then-not-are_totals-2 : goal.returns-then-not-are_totals-2
returns-then-not-are_totals-2 c = search join_no_other

pub bounds-totals-204 : goal.bounds-totals-204
bounds-totals-204 c = search taken_there

pub bounds-other-204 : goal.bounds-other-204
bounds-other-204 c = taken_there _ c.are_totals-2.ensures c.if-not-are_totals-2.false-raw

pub overflow_add-totals : goal.overflow_add-totals
overflow_add-totals c = images_fit _ _
    c.are_totals.ensures
    c.if-not-are_totals.false-raw
    c.are_totals-2.ensures
    c.if-not-are_totals-2.false-raw

pub returns-then-totals-other-gt-MOST_IMAGES : goal.returns-then-totals-other-gt-MOST_IMAGES
returns-then-totals-other-gt-MOST_IMAGES c = search join_too_many

pub add_all-requires : goal.add_all-requires
add_all-requires c = search passed_small

pub returns : goal.returns
returns c = search join_both
