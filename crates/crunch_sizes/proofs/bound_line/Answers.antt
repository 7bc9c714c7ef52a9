-- `crunch_sizes::bound_line` meets its contract: the numbering of the line says which case holds.
-- Assumes nothing.
use Rattle.crunch_sizes.proofs.LineBounds.{bounded_blank, bounded_not, bounded_line}
use Rattle.crunch_rules.proofs.Lining.{body_up, body_within}
use Rattle.crunch_sizes.proofs.bound_line.Goals as goal

pub slice_bounds-bound_body-count : goal.slice_bounds-bound_body-count
slice_bounds-bound_body-count c = search body_up

pub slice_bounds-bound_body-start : goal.slice_bounds-bound_body-start
slice_bounds-bound_body-start c = search body_up

pub slice_bounds-bound_body-end : goal.slice_bounds-bound_body-end
slice_bounds-bound_body-end c = search body_within

pub returns-in-Blank : goal.returns-in-Blank
returns-in-Blank c = search bounded_blank

pub returns-in-Missing : goal.returns-in-Missing
returns-in-Missing c = search bounded_not

pub returns-in-OutOfRange : goal.returns-in-OutOfRange
returns-in-OutOfRange c = search bounded_not

pub returns-in-Numbered : goal.returns-in-Numbered
returns-in-Numbered c = search bounded_line
